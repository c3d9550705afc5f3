use Rattle.lrc_images.proofs.CausedRowLemmas.{caused-stripe}
use Rattle.lrc_images.proofs.laws.causes.causes_of_stripes.Goals as goal

pub returns : goal.returns
returns c = caused-stripe
