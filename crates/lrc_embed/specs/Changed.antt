-- What a call with its changes returns where the rows have no room for them.
use Rattle.std.specs.Prelude.{◌≡◌, ℕ, ◌<◌, length}
use Rattle.lrc_code.specs.declared.numbers.SessionNo.{SessionNo}
use Rattle.lrc_rules.specs.declared.command.Command.{Command}
use Rattle.lrc_rules.specs.States.{State}
use Rattle.lrc_rules.specs.Histories.{outcome_in}
use Rattle.lrc_book.specs.Books.{BookView, world_of, state_of}
use Rattle.lrc_records.specs.declared.command.LrcCommand.{LrcCommand}
use Rattle.lrc_records.specs.Commands.{IsCommand}
use Rattle.lrc_changes.specs.Changes.{changes}

-- the state after the step
abbrev pub state_then : BookView → SessionNo → Command → State
state_then b session command = (outcome_in b.nodes (world_of b) session command).1

-- the step would change `count` fragments, more than there is room for
abbrev pub HasNoRoom : BookView → SessionNo → Command → ℕ → ℕ → Type 0
HasNoRoom b session command room count =
    (count ≡ length (changes (state_of b) (state_then b session command))) × (room < count)

-- the same, of the command that C wrote
abbrev pub IsShortCall : ℕ → LrcCommand → ℕ → ℕ → BookView → Type 0
IsShortCall number c room count b =
    (session : SessionNo) × (command : Command) × (session.value ≡ number) × IsCommand c command
    × HasNoRoom b session command room count
