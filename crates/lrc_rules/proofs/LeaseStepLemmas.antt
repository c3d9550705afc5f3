-- The commands on leases keep the seats in order.
use Rattle.std.proofs.Common.{◌≡◌, ℕ, IsTrue, inl, inr, true, not, nat_eq, List, Option, Some, None, refl, subst}
use Rattle.std.proofs.lemmas.Bool.{cases_Bool, eqb-true, and_parts}
use Rattle.std.proofs.lemmas.Option.{same_Some}
use Rattle.lrc_code.specs.declared.numbers.StripeNo.{StripeNo}
use Rattle.lrc_code.specs.declared.numbers.SessionNo.{SessionNo}
use Rattle.lrc_code.specs.declared.numbers.Fragment.{Fragment}
use Rattle.lrc_code.specs.Codes.{has_fragment}
use Rattle.lrc_topology.specs.declared.NodeInfo.{NodeInfo}
use Rattle.lrc_topology.specs.declared.seat.Seat.{Seat}
use Rattle.lrc_topology.specs.Nodes.{AreNodes}
use Rattle.lrc_terms.specs.declared.lease.Lease.{Lease}
use Rattle.lrc_terms.specs.Stripes.{StripeFragment}
use Rattle.lrc_rules.specs.declared.entry.Entry.{Entry}
use Rattle.lrc_rules.specs.States.{State, has_stripe, code_of, lease_of}
use Rattle.lrc_rules.specs.Placement.{chosen}
use Rattle.lrc_rules.specs.Repairs.{needs, is_beyond_repair}
use Rattle.lrc_rules.specs.Leases.{new_lease, granted, lease_answer, lease_outcome, next_answer, next_outcome, at_epoch}
use Rattle.lrc_rules.specs.Urgency.{next_of}
use Rattle.lrc_rules.specs.Goodness.{AreSeated}
use Rattle.lrc_rules.proofs.ChoiceLemmas.{chosen-choice}
use Rattle.lrc_rules.proofs.OutcomeLemmas.{from_not, either-way}
use Rattle.lrc_rules.proofs.LeaseGoodLemmas.{granted-seated}
use Rattle.lrc_rules.proofs.LookUpLemmas.{stripe-there}
use Rattle.lrc_rules.specs.declared.refusal.Refusal.TheVariants as refusal

-- a lease that is found by epoch is the live lease, and has the epoch
pub at_epoch-some : (e : ℕ) (o : Option Lease) (l : Lease) → at_epoch e o ≡ Some l → (o ≡ Some l) × (l.epoch ≡ e)
at_epoch-some e None l is = absurd (let both : None ≡ Some l = is in cc)
at_epoch-some e (Some k) l is = elim (cases_Bool (nat_eq k.epoch e)) [
  | inl hit ↦ let same : Some k ≡ Some l = rw hit at is in (same, eqb-true l.epoch e (subst (λ (m : Lease). nat_eq m.epoch e ≡ true) (same_Some k l same) hit))
  | inr miss ↦ absurd (let both : None ≡ Some l = rw miss at is in cc)
]

-- a fragment that needs a lease is one of the stripe's code
pub needs-own : (nodes : List NodeInfo) (st : State) (s : StripeNo) (f : Fragment) → needs nodes st s f ≡ true → has_fragment (code_of st s) f.value ≡ true
needs-own nodes st s f e = (and_parts (has_fragment (code_of st s) f.value) _ e).0

-- ---- grants

module _ (nodes : List NodeInfo) (known : AreNodes nodes) (past : List Entry) (st : State) (session : SessionNo) (s : StripeNo) (f : Fragment) where
  chosen-seated : AreSeated nodes st → has_stripe st s ≡ true → IsTrue (has_fragment (code_of st s) f.value) → lease_of st s f ≡ None → (o : Option Seat) → chosen nodes st s f ≡ o
      → AreSeated nodes (granted nodes past st session s f o).1
  chosen-seated seated there own none None e = seated
  chosen-seated seated there own none (Some seat) e =
      granted-seated nodes known st (new_lease past st session s f seat) seated (chosen-choice nodes st s f seat known e) (stripe-there st s there) own none

  answered-seated : AreSeated nodes st → has_stripe st s ≡ true → (o : Option Lease) → lease_of st s f ≡ o
      → AreSeated nodes (lease_answer nodes past st session s f o).1
  answered-seated seated there (Some l) e = seated
  answered-seated seated there None e =
      either-way (AreSeated nodes) (not (needs nodes st s f)) refusal.NotNeeded st _ seated
      (λ needed. either-way (AreSeated nodes) (is_beyond_repair nodes st s f) refusal.Unrecoverable st _ seated
      (λ safe. chosen-seated seated there (needs-own nodes st s f (from_not _ needed)) e (chosen nodes st s f) refl))

  pub lease-seated : AreSeated nodes st → AreSeated nodes (lease_outcome nodes past st session s f).1
  unfolding lease_outcome
  lease-seated seated =
      either-way (AreSeated nodes) (not (has_stripe st s)) refusal.UnknownStripe st (lease_answer nodes past st session s f (lease_of st s f)) seated
      (λ there. answered-seated seated (from_not _ there) (lease_of st s f) refl)

module _ (nodes : List NodeInfo) (known : AreNodes nodes) (past : List Entry) (st : State) (session : SessionNo) where
  next-answered : (o : Option StripeFragment) → AreSeated nodes st → AreSeated nodes (next_answer nodes past st session o).1
  next-answered (Some p) seated = lease-seated nodes known past st session p.0 p.1 seated
  next-answered None seated = seated

  -- Next
  pub next-seated : AreSeated nodes st → AreSeated nodes (next_outcome nodes past st session).1
  unfolding next_outcome
  next-seated seated = next-answered (next_of nodes st) seated
