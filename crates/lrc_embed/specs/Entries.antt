-- The entry that a call or a peek writes.
use Rattle.std.specs.Prelude.{◌≡◌, ℕ, replicate}
use Rattle.lrc_code.specs.declared.numbers.SessionNo.{SessionNo}
use Rattle.lrc_rules.specs.declared.command.Command.{Command}
use Rattle.lrc_book.specs.Books.{BookView}
use Rattle.lrc_records.specs.declared.command.LrcCommand.{LrcCommand}
use Rattle.lrc_records.specs.declared.entry.LrcEntry.{LrcEntry}
use Rattle.lrc_records.specs.Commands.{IsCommand, encoded_command}
use Rattle.lrc_embed.specs.Calls.{IsReplyOf, IsStepOf}

-- what an entry has before its reply: this session and this command
pub record HasCall (session : SessionNo) (command : Command) (entry : LrcEntry) : Type 0 where
  pub session_is : entry.session ≡ session.value
  pub reserved_is : entry.reserved ≡ replicate 3 0
  pub command_is : entry.command ≡ encoded_command command

-- the entry is that of the step after the book's history, of the command that C wrote
abbrev pub IsPeekEntry : ℕ → LrcCommand → LrcEntry → BookView → Type 0
IsPeekEntry number c entry b =
    (session : SessionNo) × (command : Command) × (session.value ≡ number) × IsCommand c command
    × HasCall session command entry × IsReplyOf b session command entry.reply

-- the same, and the history grew by this entry alone
abbrev pub IsCallEntry : ℕ → LrcCommand → LrcEntry → BookView → BookView → Type 0
IsCallEntry number c entry b after =
    (session : SessionNo) × (command : Command) × (session.value ≡ number) × IsCommand c command
    × HasCall session command entry × IsStepOf b session command entry.reply after
