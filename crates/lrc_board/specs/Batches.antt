-- The calls of a batch.
use Rattle.std.specs.Prelude.{◌≡◌, List, ◌++◌, map, All}
use Rattle.lrc_code.specs.declared.numbers.SessionNo.{SessionNo}
use Rattle.lrc_rules.specs.declared.command.Command.{Command}
use Rattle.lrc_rules.specs.declared.entry.Entry.{Entry}

-- these commands were made after these entries, all by this session
pub record AreMadeBehind (before : List Entry) (session : SessionNo) (commands : List Command)
    (after : List Entry) : Type 0 where
  pub added : List Entry
  pub behind : after ≡ before ++ added
  pub made : map (λ e. e.command) added ≡ commands
  pub alone : All (λ e. e.session ≡ session) added
