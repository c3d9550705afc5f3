use Rattle.lrc_rules.proofs.AlikeGoodLemmas.{alike-seated, alike-good, alike-tidy}
use Rattle.lrc_rules.proofs.laws.images.alike_states_are_as_good.Goals as goal

pub returns-clause-seated : goal.returns-clause-seated
returns-clause-seated c = λ nodes st other alike distinct seated. alike-seated nodes st other alike seated distinct

pub returns-clause-good : goal.returns-clause-good
returns-clause-good c = λ nodes w v alike same distinct good. alike-good nodes w.past v.past w.state v.state alike same distinct good

pub returns-clause-tidy : goal.returns-clause-tidy
returns-clause-tidy c = λ nodes st other alike tidy. alike-tidy nodes st other alike tidy
