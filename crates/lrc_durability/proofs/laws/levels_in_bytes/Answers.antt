use Rattle.lrc_rules.specs.Histories.{state_from}
use Rattle.lrc_durability.proofs.LevelByteLemmas.{lost_bytes, lost_stripes, unavailable_bytes, at_risk_bytes, whole_bytes}
use Rattle.lrc_durability.proofs.laws.levels_in_bytes.Goals as goal

pub returns-clause-lost : goal.returns-clause-lost
returns-clause-lost c = λ nodes w history s. lost_bytes nodes (state_from nodes w history) s

pub returns-clause-two_stripes : goal.returns-clause-two_stripes
returns-clause-two_stripes c = λ nodes w history s. lost_stripes nodes (state_from nodes w history) s

pub returns-clause-unavailable : goal.returns-clause-unavailable
returns-clause-unavailable c = λ nodes w history s. unavailable_bytes nodes (state_from nodes w history) s

pub returns-clause-at_risk : goal.returns-clause-at_risk
returns-clause-at_risk c = λ nodes w history s t. at_risk_bytes nodes (state_from nodes w history) s t

pub returns-clause-whole : goal.returns-clause-whole
returns-clause-whole c = λ nodes w history s. whole_bytes nodes (state_from nodes w history) s
