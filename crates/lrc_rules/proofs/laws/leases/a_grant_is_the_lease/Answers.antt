use Rattle.std.proofs.Common.{ap}
use Rattle.lrc_terms.specs.declared.lease.Lease.{Lease}
use Rattle.lrc_rules.proofs.ChoiceLemmas.{chosen-choice}
use Rattle.lrc_rules.proofs.LeaseLawLemmas.{lease-new}
use Rattle.lrc_rules.proofs.laws.leases.a_grant_is_the_lease.Goals as goal

pub returns-clause-live : goal.returns-clause-live
returns-clause-live c = λ nodes past st session s f l k told. (lease-new nodes past st session s f l k told).live

pub returns-clause-own : goal.returns-clause-own
returns-clause-own c = λ nodes past st session s f l k told.
    let new = lease-new nodes past st session s f l k told in (
      ap (λ (x : Lease). x.stripe) new.own,
      ap (λ (x : Lease). x.fragment) new.own,
      ap (λ (x : Lease). x.holder) new.own,
      ap (λ (x : Lease). x.epoch) new.own,
      ap (λ (x : Lease). x.expiry) new.own,
      new.from,
    )

pub returns-clause-target : goal.returns-clause-target
returns-clause-target c =
    λ nodes past st session s f l k known told. chosen-choice nodes st s f l.target known (lease-new nodes past st session s f l k told).seat
