use Rattle.lrc_images.proofs.BaseLemmas.{based-joined}
use Rattle.lrc_images.proofs.laws.bases.joined_nodes_are_empty_from_any_base.Goals as goal

pub returns : goal.returns
returns c = λ nodes base history session n known is legal told.
    let left = based-joined nodes base history is n known legal told in (left.active, left.up, left.none)
