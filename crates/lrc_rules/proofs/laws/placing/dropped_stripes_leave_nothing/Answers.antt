use Rattle.lrc_rules.proofs.ThereLemmas.{stripes-left, codes-left, homes-left, leases-left}
use Rattle.lrc_rules.proofs.laws.placing.dropped_stripes_leave_nothing.Goals as goal

pub returns-clause-stripes : goal.returns-clause-stripes
returns-clause-stripes c = λ nodes past st session s r. stripes-left st s r

pub returns-clause-codes : goal.returns-clause-codes
returns-clause-codes c = λ nodes past st session s r. codes-left st s r

pub returns-clause-homes : goal.returns-clause-homes
returns-clause-homes c = λ nodes past st session s h. homes-left st s h

pub returns-clause-leases : goal.returns-clause-leases
returns-clause-leases c = λ nodes past st session s l. leases-left st s l
