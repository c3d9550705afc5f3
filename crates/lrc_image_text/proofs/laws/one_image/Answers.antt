use Rattle.lrc_image_text.proofs.ImageLemmas.{same_rows}
use Rattle.lrc_image_text.proofs.laws.one_image.Goals as goal

pub returns : goal.returns
returns c = same_rows
