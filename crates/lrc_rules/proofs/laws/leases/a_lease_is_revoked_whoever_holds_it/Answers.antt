use Rattle.lrc_rules.proofs.GivenBackLemmas.{revoke-left}
use Rattle.lrc_rules.proofs.laws.leases.a_lease_is_revoked_whoever_holds_it.Goals as goal

pub returns-clause-after : goal.returns-clause-after
returns-clause-after c = λ nodes past st session s f told. revoke-left nodes st session s f told
