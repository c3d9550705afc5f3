use Rattle.lrc_images.proofs.BaseLemmas.{based-draining}
use Rattle.lrc_images.proofs.laws.bases.draining_nodes_are_not_gone_from_any_base.Goals as goal

pub returns : goal.returns
returns c = λ nodes base history is. based-draining nodes base history is
