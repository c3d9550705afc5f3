use Rattle.lrc_outputs.proofs.AnswerLemmas.{some_output}
use Rattle.lrc_outputs.proofs.laws.some_output.Goals as goal

pub returns : goal.returns
returns c = some_output
