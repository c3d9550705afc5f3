use Rattle.lrc_rules.proofs.LeaseLawLemmas.{lease-keeps, done-keeps, abandon-keeps, revoke-keeps}
use Rattle.lrc_rules.proofs.laws.leases.others_keep_their_leases.Goals as goal

pub returns-clause-lease : goal.returns-clause-lease
returns-clause-lease c = λ nodes past st session s r f g apart. lease-keeps st s r f g apart nodes past session

pub returns-clause-done : goal.returns-clause-done
returns-clause-done c = λ nodes past st session s r f g e apart. done-keeps st s r f g apart nodes past session e

pub returns-clause-abandon : goal.returns-clause-abandon
returns-clause-abandon c = λ nodes past st session s r f g e apart. abandon-keeps st s r f g apart nodes past session e

pub returns-clause-revoke : goal.returns-clause-revoke
returns-clause-revoke c = λ nodes past st session s r f g apart. revoke-keeps st s r f g apart nodes past session
