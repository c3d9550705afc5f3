-- What the calls of saved entries give when they are repeated.
use Rattle.std.specs.Prelude.{◌≡◌, ◌≢◌, ℕ, List, [], ◌∷◌, ◌++◌, take, length, Some}
use Rattle.std.specs.List.{slice_get}
use Rattle.lrc_code.specs.declared.numbers.SessionNo.{SessionNo}
use Rattle.lrc_rules.specs.declared.command.Command.{Command}
use Rattle.lrc_rules.specs.declared.entry.Entry.{Entry}
use Rattle.lrc_rules.specs.Histories.{outcome_in, IsLegalFrom}
use Rattle.lrc_book.specs.Books.{BookView, world_of}
use Rattle.lrc_records.specs.declared.entry.LrcEntry.{LrcEntry}
use Rattle.lrc_records.specs.Commands.{IsCommand}
use Rattle.lrc_records.specs.Replies.{encoded_reply}
use Rattle.lrc_embed.specs.Calls.{IsNoCall}

-- the struct has this session and this command
abbrev pub HasSessionAndCommand : LrcEntry → SessionNo → Command → Type 0
HasSessionAndCommand c session command = (session.value ≡ c.session) × IsCommand c.command command

-- the struct is this entry
abbrev pub IsEntry : LrcEntry → Entry → Type 0
IsEntry c e = HasSessionAndCommand c e.session e.command × (c.reply ≡ encoded_reply e.reply)

-- the structs are these entries, one by one
abbrev pub AreEntries : List LrcEntry → List Entry → Type 0
AreEntries [] [] = Unit {0}
AreEntries (c ∷ cs) (e ∷ es) = IsEntry c e × AreEntries cs es
AreEntries _ _ = ⊥

-- the history grew by the entries of these structs, each with the reply of the step
abbrev pub IsReplay : List LrcEntry → BookView → BookView → Type 0
IsReplay cs b after =
    (es : List Entry) × AreEntries cs es × IsLegalFrom b.nodes (world_of b) es
    × (after.history ≡ b.history ++ es)
    × (after.nodes ≡ b.nodes) × (after.limit ≡ b.limit) × (after.base ≡ b.base) × (after.before ≡ b.before)

-- the entries before this position are replayed, and this holds of the entry there, in the book after them
abbrev pub StopsAt : (LrcEntry → BookView → Type 0) → List LrcEntry → ℕ → BookView → Type 0
StopsAt P cs position b =
    (c : LrcEntry) × (after : BookView) × (slice_get cs position ≡ Some c) × IsReplay (take position cs) b after
    × P c after

-- no session or no command has these numbers
abbrev pub IsUnreadable : LrcEntry → BookView → Type 0
IsUnreadable c b = IsNoCall c.session c.command

-- a session and a command have these numbers, and the history has no room for one more
abbrev pub IsFull : LrcEntry → BookView → Type 0
IsFull c b =
    (session : SessionNo) × (command : Command) × HasSessionAndCommand c session command × (length b.history ≡ b.limit)

-- a session and a command have these numbers, and the history has room for one more
abbrev pub IsCallable : LrcEntry → BookView → Type 0
IsCallable c b =
    (session : SessionNo) × (command : Command) × HasSessionAndCommand c session command × (length b.history ≢ b.limit)

-- the step has another reply than the entry
abbrev pub IsDifferent : LrcEntry → BookView → Type 0
IsDifferent c b =
    (session : SessionNo) × (command : Command) × HasSessionAndCommand c session command
    × (c.reply ≢ encoded_reply (outcome_in b.nodes (world_of b) session command).0)

-- (internal) the history grew by the entry of the struct, with the reply of the step
abbrev pub IsRepeat : LrcEntry → BookView → BookView → Type 0
IsRepeat c b after =
    (e : Entry) × IsEntry c e × ((outcome_in b.nodes (world_of b) e.session e.command).0 ≡ e.reply)
    × (after.history ≡ b.history ++ e ∷ [])
    × (after.nodes ≡ b.nodes) × (after.limit ≡ b.limit) × (after.base ≡ b.base) × (after.before ≡ b.before)
