use Rattle.lrc_script.proofs.FirstLemmas.{first_bad-some, first_bad-none}
use Rattle.lrc_script.proofs.laws.first_bad_line.Goals as goal

pub returns-clause-found : goal.returns-clause-found
returns-clause-found c = first_bad-some

pub returns-clause-none : goal.returns-clause-none
returns-clause-none c = first_bad-none
