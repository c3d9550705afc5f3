use Rattle.lrc_outputs.proofs.SomeSequelLemmas.{some_sequel_output}
use Rattle.lrc_outputs.proofs.laws.some_sequel_output.Goals as goal

pub returns : goal.returns
returns c = some_sequel_output
