use Rattle.lrc_images.proofs.EarlierLemmas.{row-granted, none-granted}
use Rattle.lrc_images.proofs.laws.grants_are_those_of_the_rows.Goals as goal

pub returns-clause-some : goal.returns-clause-some
returns-clause-some c = λ i r f rising here. row-granted i.grants.items r f rising here

pub returns-clause-none : goal.returns-clause-none
returns-clause-none c = λ i s f none. none-granted s f i.grants.items none
