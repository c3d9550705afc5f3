use Rattle.lrc_images.proofs.OneImageLemmas.{alike-image}
use Rattle.lrc_images.proofs.laws.alike_states_have_one_image.Goals as goal

pub returns : goal.returns
returns c =
    λ nodes w v before i seated seated' alike same is. alike-image nodes w.past v.past w.state v.state before i seated seated' alike same is
