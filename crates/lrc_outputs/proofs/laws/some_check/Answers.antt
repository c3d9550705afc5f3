use Rattle.lrc_outputs.proofs.CheckAnswerLemmas.{some_check}
use Rattle.lrc_outputs.proofs.laws.some_check.Goals as goal

pub returns : goal.returns
returns c = some_check
