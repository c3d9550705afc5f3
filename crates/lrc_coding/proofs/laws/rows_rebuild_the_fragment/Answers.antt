use Rattle.lrc_coding.proofs.LawLemmas.{standing, enough}
use Rattle.lrc_coding.proofs.laws.rows_rebuild_the_fragment.Goals as goal

pub returns-clause-standing : goal.returns-clause-standing
returns-clause-standing c = λ code m f of. standing of code m f

pub returns-clause-enough : goal.returns-clause-enough
returns-clause-enough c = λ code m f of. enough of code m f
