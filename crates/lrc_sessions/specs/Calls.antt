-- A session after its calls.
use Rattle.std.specs.Prelude.{◌≡◌, ℕ, ◌+◌, ◌<◌, List, [], ◌∷◌, ◌++◌, length, map, All}
use mathlib.Core.List.{IsPrefix}
use Rattle.lrc_code.specs.declared.fault.Fault.{Fault}
use Rattle.lrc_code.specs.declared.fault.Fault.TheVariants.{OutOfMemory, HistoryFull}
use Rattle.lrc_topology.specs.declared.NodeInfo.{NodeInfo}
use Rattle.lrc_rules.specs.declared.command.Command.{Command}
use Rattle.lrc_rules.specs.declared.entry.Entry.{Entry}
use Rattle.lrc_rules.specs.declared.reply.Reply.{Reply}
use Rattle.lrc_rules.specs.Histories.{IsLegal}
use Rattle.lrc_board.specs.declared.receipt.Receipt.{Receipt}
use Rattle.lrc_sessions.specs.Views.{SessionView}

-- the entry of a call has the session's number, the command and the reply
abbrev pub IsEntryOf : ℕ → Command → Reply → Entry → Type 0
IsEntryOf number command reply e = (e.session.value ≡ number) × (e.command ≡ command) × (e.reply ≡ reply)

-- A call was made: the session keeps its number and has one call more. What it has now seen is legal, starts with what
-- it had seen before, and ends with the entry of this call, whose place is the number of entries seen.
pub record IsCalled (nodes : List NodeInfo) (before : SessionView) (command : Command) (r : Receipt) (after : SessionView) : Type 0 where
  pub number : after.number ≡ before.number
  pub made : after.made ≡ before.made + 1
  pub legal : IsLegal nodes after.seen
  pub between : List Entry
  pub entry : Entry
  pub entry_is : IsEntryOf before.number command r.reply entry
  pub seen : after.seen ≡ (before.seen ++ between) ++ entry ∷ []
  pub place : r.place ≡ length after.seen
  pub later : length before.seen < r.place

-- the entries of calls have the session's number, and the commands in order
abbrev pub AreEntriesBy : ℕ → List Command → List Entry → Type 0
AreEntriesBy number commands entries =
    (map (λ e. e.command) entries ≡ commands) × All (λ e. e.session.value ≡ number) entries

-- Calls were made one after another, the first at this place: the session keeps its number and has as many calls more.
-- What it has now seen is legal, starts with what it had seen before, and ends with the entries of these calls.
pub record AreCalled (nodes : List NodeInfo) (before : SessionView) (commands : List Command) (first : ℕ)
    (after : SessionView) : Type 0 where
  pub number : after.number ≡ before.number
  pub made : after.made ≡ before.made + length commands
  pub legal : IsLegal nodes after.seen
  pub between : List Entry
  pub entries : List Entry
  pub entries_are : AreEntriesBy before.number commands entries
  pub seen : after.seen ≡ (before.seen ++ between) ++ entries
  pub place : 0 < length commands → first ≡ length (before.seen ++ between) + 1

-- A session after a fault. OutOfMemory leaves it unchanged, and comes only if it has seen fewer entries than the limit.
-- After HistoryFull it has seen the whole history, which is as long as the limit.
abbrev pub IsLeft : List NodeInfo → ℕ → SessionView → Fault → SessionView → Type 0
IsLeft nodes limit before OutOfMemory after = (after ≡ before) × (length before.seen < limit)
IsLeft nodes limit before HistoryFull after =
    (after.number ≡ before.number) × (after.made ≡ before.made) × IsLegal nodes after.seen × IsPrefix before.seen after.seen
    × (length after.seen ≡ limit)

-- after HistoryFull the session has seen the whole history; OutOfMemory comes only before that
abbrev pub IsFullIn : ℕ → List Entry → Fault → Type 0
IsFullIn limit seen OutOfMemory = length seen < limit
IsFullIn limit seen HistoryFull = length seen ≡ limit
