use Rattle.lrc_image_text.proofs.OnceLemmas.{one_bad}
use Rattle.lrc_image_text.proofs.ImageLemmas.{no_bad}
use Rattle.lrc_image_text.proofs.laws.one_bad_line.Goals as goal

pub returns-clause-one : goal.returns-clause-one
returns-clause-one c = one_bad

pub returns-clause-none : goal.returns-clause-none
returns-clause-none c = no_bad
