use Rattle.lrc_images.proofs.CausedRowLemmas.{caused-head}
use Rattle.lrc_images.proofs.laws.causes.causes_of_heads.Goals as goal

pub returns : goal.returns
returns c = caused-head
