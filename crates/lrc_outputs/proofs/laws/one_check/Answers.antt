use Rattle.lrc_outputs.proofs.CheckAnswerLemmas.{one_check}
use Rattle.lrc_outputs.proofs.laws.one_check.Goals as goal

pub returns : goal.returns
returns c = one_check
