use Rattle.lrc_outputs.proofs.OneSequelLemmas.{one_sequel_output}
use Rattle.lrc_outputs.proofs.laws.one_sequel_output.Goals as goal

pub returns : goal.returns
returns c = one_sequel_output
