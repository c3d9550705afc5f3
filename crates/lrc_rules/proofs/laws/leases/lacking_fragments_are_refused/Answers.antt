use Rattle.lrc_rules.proofs.LackingLemmas.{lease-lacked, done-lacked, abandon-lacked, revoke-lacked}
use Rattle.lrc_rules.proofs.laws.leases.lacking_fragments_are_refused.Goals as goal

pub returns-clause-lease : goal.returns-clause-lease
returns-clause-lease c = λ nodes past st session s f seated there beyond. lease-lacked nodes st s f seated beyond there past session

pub returns-clause-done : goal.returns-clause-done
returns-clause-done c = λ nodes past st session s f e seated there beyond. done-lacked nodes st s f seated beyond there session e

pub returns-clause-abandon : goal.returns-clause-abandon
returns-clause-abandon c = λ nodes past st session s f e seated there beyond. abandon-lacked nodes st s f seated beyond there session e

pub returns-clause-revoke : goal.returns-clause-revoke
returns-clause-revoke c = λ nodes past st session s f seated there beyond. revoke-lacked nodes st s f seated beyond there
