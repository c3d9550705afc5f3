use Rattle.lrc_book.proofs.AlikeLookLemmas.{alike-looks}
use Rattle.lrc_book.proofs.laws.alike_states_look_the_same.Goals as goal

pub returns : goal.returns
returns c = λ nodes st other seated seated' alike. alike-looks nodes st other alike seated seated'
