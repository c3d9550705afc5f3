use Rattle.lrc_rules.proofs.StepLemmas.{refused-keeps}
use Rattle.lrc_rules.proofs.laws.histories.refused_commands_change_nothing.Goals as goal

pub returns : goal.returns
returns c = refused-keeps
