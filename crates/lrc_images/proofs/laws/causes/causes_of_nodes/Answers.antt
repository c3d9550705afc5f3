use Rattle.lrc_images.proofs.CausedRowLemmas.{caused-node}
use Rattle.lrc_images.proofs.laws.causes.causes_of_nodes.Goals as goal

pub returns : goal.returns
returns c = caused-node
