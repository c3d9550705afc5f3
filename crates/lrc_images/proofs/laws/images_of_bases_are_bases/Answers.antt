use Rattle.lrc_images.proofs.ImageLemmas.{alike-base}
use Rattle.lrc_images.proofs.TakenLemmas.{base-taken}
use Rattle.lrc_images.proofs.laws.images_of_bases_are_bases.Goals as goal

pub returns-clause-base : goal.returns-clause-base
returns-clause-base c = alike-base

pub returns-clause-taken : goal.returns-clause-taken
returns-clause-taken c = λ nodes w i base rising alike same few. base-taken nodes i rising (alike-base nodes w i base rising alike same) few
