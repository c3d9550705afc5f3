-- What calls and looks return of the book of a handle.
use Rattle.std.specs.Prelude.{◌≡◌, ◌≢◌, ◌⊎◌, ◌↔◌, ℕ, ◌+◌, ◌≤◌, false, List, [], ◌∷◌, ◌++◌, length}
use Rattle.std.specs.Prelude.{Option, Some, None, option_map}
use Rattle.lrc_code.specs.declared.numbers.StripeNo.{StripeNo}
use Rattle.lrc_code.specs.declared.numbers.Fragment.{Fragment}
use Rattle.lrc_code.specs.declared.numbers.SessionNo.{SessionNo}
use Rattle.lrc_topology.specs.declared.NodeInfo.{NodeInfo}
use Rattle.lrc_topology.specs.declared.error.TopologyError.{TopologyError}
use Rattle.lrc_topology.specs.Documents.{IsTopologyOf, IsRefusedBy}
use Rattle.lrc_rules.specs.declared.command.Command.{Command}
use Rattle.lrc_rules.specs.declared.entry.Entry.{Entry}
use Rattle.lrc_rules.specs.Alike.{AreAlike}
use Rattle.lrc_rules.specs.Futures.{HaveSameGrants}
use Rattle.lrc_rules.specs.Histories.{World, first_world, outcome_in}
use Rattle.lrc_book.specs.Books.{BookView, world_of, state_of}
use Rattle.lrc_records.specs.declared.command.LrcCommand.{LrcCommand}
use Rattle.lrc_records.specs.declared.reply.LrcReply.{LrcReply}
use Rattle.lrc_records.specs.Commands.{IsCommand, is_command}
use Rattle.lrc_records.specs.Replies.{encoded_reply}
use Rattle.lrc_embed.specs.declared.status.TheConstants.{DONE, IS_CLOSED, OUT_OF_RANGE, UNKNOWN}
use Rattle.lrc_embed.specs.Statuses.{IsOneOf, topology_status}

-- there is a book, and this holds of it
abbrev pub Of : Option BookView → (BookView → Type 0) → Type 0
Of None P = ⊥
Of (Some b) P = P b

-- what a failed call leaves as it was; the room that was made for later is not part of it
abbrev pub contents : Option BookView → Option (List NodeInfo × ℕ × List Entry × World × ℕ)
contents book = option_map (λ b. (b.nodes, b.limit, b.history, b.base, b.before)) book

-- the number of entries that the store has made
abbrev pub entry_count : BookView → ℕ
entry_count b = b.before + length b.history

-- a book of the text's nodes that begins empty, with no entry yet
abbrev pub IsNew : List ℕ → BookView → Type 0
IsNew text b =
    IsTopologyOf text b.nodes × (b.limit ≡ 1000000) × (b.history ≡ []) × (b.base ≡ first_world) × (b.before ≡ 0)

-- the text is refused as this status and this detail say
abbrev pub IsRefused : List ℕ → ℕ → ℕ → Type 0
IsRefused text status detail = (e : TopologyError) × IsRefusedBy text e × (topology_status e ≡ (status, detail))

-- the reply is that of the step after the book's history
abbrev pub IsReplyOf : BookView → SessionNo → Command → LrcReply → Type 0
IsReplyOf b session command reply = reply ≡ encoded_reply (outcome_in b.nodes (world_of b) session command).0

-- the same, of the command that C wrote
abbrev pub IsPeek : ℕ → LrcCommand → LrcReply → BookView → Type 0
IsPeek number c reply b =
    (session : SessionNo) × (command : Command) × (session.value ≡ number) × IsCommand c command
    × IsReplyOf b session command reply

-- the reply is that of the step after the book's history, and the history grew by this entry alone
abbrev pub IsStepOf : BookView → SessionNo → Command → LrcReply → BookView → Type 0
IsStepOf b session command reply after =
    IsReplyOf b session command reply
    × (after.history ≡ b.history
    ++ record { session = session; command = command; reply = (outcome_in b.nodes (world_of b) session command).0 }
    ∷ [])
    × (after.nodes ≡ b.nodes) × (after.limit ≡ b.limit) × (after.base ≡ b.base) × (after.before ≡ b.before)

-- the same, of the command that C wrote
abbrev pub IsCall : ℕ → LrcCommand → LrcReply → BookView → BookView → Type 0
IsCall number c reply b after =
    (session : SessionNo) × (command : Command) × (session.value ≡ number) × IsCommand c command
    × IsStepOf b session command reply after

-- The history is empty, after all entries of the book before. The state is alike, and as many leases were granted for
-- each fragment.
abbrev pub IsForgotten : BookView → BookView → Type 0
IsForgotten b after =
    (after.history ≡ []) × (after.before ≡ b.before + length b.history) × AreAlike (state_of b) (state_of after)
    × HaveSameGrants (b.base.past ++ b.history) after.base.past
    × (after.nodes ≡ b.nodes) × (after.limit ≡ b.limit)

-- the stripe of a number that is in its range
abbrev pub AtStripe : ℕ → (StripeNo → Type 0) → Type 0
AtStripe number P = (s : StripeNo) × (s.value ≡ number) × P s

-- the stripe and the fragment of these numbers, which are in their ranges
abbrev pub AtFragment : ℕ → ℕ → (StripeNo → Fragment → Type 0) → Type 0
AtFragment number fragment P = (s : StripeNo) × (f : Fragment) × (s.value ≡ number) × (f.value ≡ fragment) × P s f

-- A look changes nothing. With `DONE` the book shows this value, with `UNKNOWN` it shows none; else nothing is written.
pub record IsLook {T : Type 0} (Outside : Type 0) (Shows : BookView → Option T → Type 0)
    (book book_after : Option BookView) (status : ℕ) (before after : T) : Type 0 where
  pub same : book_after ≡ book
  pub done : (status ≡ DONE) → Of book (λ b. Shows b (Some after))
  pub unknown : (status ≡ UNKNOWN) → Of book (λ b. Shows b None)
  pub closed : (status ≡ IS_CLOSED) → book ≡ None
  -- A closed handle returns this too.
  pub range : (status ≡ OUT_OF_RANGE) ↔ Outside
  pub statuses : IsOneOf status (DONE ∷ IS_CLOSED ∷ OUT_OF_RANGE ∷ UNKNOWN ∷ [])
  pub unwritten : (status ≢ DONE) → after ≡ before

-- a look at the stripe of a number
abbrev pub IsStripeLook : {T : Type 0} → ℕ → (BookView → StripeNo → Option T) → Option BookView → Option BookView → ℕ
    → T → T → Type 0
IsStripeLook number shown = IsLook (4096 ≤ number) (λ b found. AtStripe number (λ s. shown b s ≡ found))

-- a look at the fragment of a stripe of these numbers
abbrev pub IsFragmentLook : {T : Type 0} → ℕ → ℕ → (BookView → StripeNo → Fragment → Option T) → Option BookView
    → Option BookView → ℕ → T → T → Type 0
IsFragmentLook stripe fragment shown =
    IsLook ((4096 ≤ stripe) ⊎ (16 ≤ fragment)) (λ b found. AtFragment stripe fragment (λ s f. shown b s f ≡ found))

-- A reading changes nothing. With `DONE` the book has this value; else nothing is written.
pub record IsReading {T : Type 0} (value : BookView → T) (book book_after : Option BookView) (status : ℕ)
    (before after : T) : Type 0 where
  pub same : book_after ≡ book
  pub done : (status ≡ DONE) → Of book (λ b. value b ≡ after)
  pub closed : (status ≡ IS_CLOSED) → book ≡ None
  pub statuses : IsOneOf status (DONE ∷ IS_CLOSED ∷ [])
  pub unwritten : (status ≢ DONE) → after ≡ before

-- no session has this number
abbrev pub IsOutside : ℕ → Type 0
IsOutside number = (number ≡ 0) ⊎ (9 ≤ number)

-- no session or no command has these numbers
abbrev pub IsNoCall : ℕ → LrcCommand → Type 0
IsNoCall session command = IsOutside session ⊎ (is_command command ≡ false)
