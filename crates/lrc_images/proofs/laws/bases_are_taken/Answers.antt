use Rattle.lrc_images.proofs.TakenLemmas.{base-taken}
use Rattle.lrc_images.proofs.laws.bases_are_taken.Goals as goal

pub returns : goal.returns
returns c = λ nodes i rising base few. base-taken nodes i rising base few
