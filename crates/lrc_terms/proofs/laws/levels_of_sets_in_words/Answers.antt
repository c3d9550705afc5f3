use Rattle.lrc_terms.proofs.LevelLemmas.{law_lost, law_unavailable, law_at_risk, law_few, law_whole}
use Rattle.lrc_terms.proofs.laws.levels_of_sets_in_words.Goals as goal

pub returns : goal.returns
returns c = record { lost = law_lost; unavailable = law_unavailable; at_risk = law_at_risk; few = law_few; whole = law_whole }
