use Rattle.lrc_changes.proofs.LawLemmas.{changed-each, others-stay, changed-rising}
use Rattle.lrc_changes.proofs.laws.rows_are_of_what_differs.Goals as goal

pub returns-clause-each : goal.returns-clause-each
returns-clause-each c = λ was now p. changed-each was now p

pub returns-clause-others : goal.returns-clause-others
returns-clause-others c = λ was now p none. others-stay was now p none

pub returns-clause-rising : goal.returns-clause-rising
returns-clause-rising c = λ was now. changed-rising was now
