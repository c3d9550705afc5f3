use Rattle.lrc_rules.proofs.CodesStayLemmas.{placed-code, other-code, code-stays}
use Rattle.lrc_rules.proofs.laws.placing.codes_stay.Goals as goal

pub returns-clause-placed : goal.returns-clause-placed
returns-clause-placed c = λ nodes past st session code s seats told. placed-code nodes past st session code s seats told

pub returns-clause-others : goal.returns-clause-others
returns-clause-others c = λ nodes past st session command s p q d. other-code nodes past st session s command p q d

pub returns-clause-stay : goal.returns-clause-stay
returns-clause-stay c = λ nodes past st session command s before after. code-stays nodes past st session s command before after
