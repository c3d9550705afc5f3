use Rattle.lrc_rules.proofs.AlikeWorldLemmas.{alike-shows}
use Rattle.lrc_rules.proofs.laws.images.alike_states_show_the_same.Goals as goal

pub returns : goal.returns
returns c = λ nodes st other seated seated' alike. alike-shows nodes st other alike seated seated'
