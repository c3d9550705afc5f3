use Rattle.lrc_outputs.proofs.AnswerLemmas.{one_output}
use Rattle.lrc_outputs.proofs.laws.one_output.Goals as goal

pub returns : goal.returns
returns c = one_output
