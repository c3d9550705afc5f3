use Rattle.lrc_image_text.proofs.TotalLemmas.{judged}
use Rattle.lrc_image_text.proofs.laws.every_text.Goals as goal

pub returns : goal.returns
returns c = judged
