use Rattle.lrc_durability.proofs.LeaseByteLemmas.{granted_present, granted_enough, group_bytes}
use Rattle.lrc_durability.proofs.laws.leases_in_bytes.Goals as goal

pub returns-clause-present : goal.returns-clause-present
returns-clause-present c = λ nodes past st session command l k g told few hit. granted_present nodes past st session l k command told g few hit

pub returns-clause-enough : goal.returns-clause-enough
returns-clause-enough c = λ nodes past st session command l k. granted_enough nodes past st session l k command

pub returns-clause-group : goal.returns-clause-group
returns-clause-group c = group_bytes
