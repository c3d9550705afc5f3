-- What the replies to the commands of leases tell of the state that they were given in.
use Rattle.std.proofs.Common.{◌≡◌, ℕ, Bool, true, false, not, List, Option, Some, None, IsSome, refl, subst}
use Rattle.lrc_code.specs.declared.numbers.StripeNo.{StripeNo}
use Rattle.lrc_code.specs.declared.numbers.SessionNo.{SessionNo}
use Rattle.lrc_code.specs.declared.numbers.Fragment.{Fragment}
use Rattle.lrc_topology.specs.declared.NodeInfo.{NodeInfo}
use Rattle.lrc_topology.specs.declared.seat.Seat.{Seat}
use Rattle.lrc_terms.specs.declared.lease.Lease.{Lease}
use Rattle.lrc_terms.specs.Stripes.{StripeFragment}
use Rattle.lrc_rules.specs.declared.entry.Entry.{Entry}
use Rattle.lrc_rules.specs.declared.kind.Kind.{Kind}
use Rattle.lrc_rules.specs.declared.reply.Reply.TheVariants.{Granted, Idle, Ended, Refused}
use Rattle.lrc_rules.specs.declared.refusal.Refusal.{Refusal}
use Rattle.lrc_rules.specs.declared.refusal.Refusal.TheVariants as refusal
use Rattle.lrc_rules.specs.States.{State, has_stripe, lease_of}
use Rattle.lrc_rules.specs.Placement.{chosen}
use Rattle.lrc_rules.specs.Outcomes.{refuse_if}
use Rattle.lrc_rules.specs.Urgency.{next_of}
use Rattle.lrc_rules.specs.Repairs.{needs, is_beyond_repair}
use Rattle.lrc_rules.specs.Leases.{new_lease, granted, lease_answer, lease_outcome, next_answer, next_outcome, at_epoch, done_answer, done_outcome}
use Rattle.lrc_store.specs.Stores.{IsGrant}
use Rattle.lrc_rules.proofs.LeaseStepLemmas.{needs-own}

same-lease : (a b : Lease) (k l : Kind) → Granted a k ≡ Granted b l → a ≡ b
same-lease a b k l e = cc

not-granted : (r : Refusal) (l : Lease) (k : Kind) → Refused r ≡ Granted l k → ⊥
not-granted r l k e = cc

not-ended : (r : Refusal) → Refused r ≡ Ended → ⊥
not-ended r e = cc

module _ (nodes : List NodeInfo) (past : List Entry) (st : State) (session : SessionNo) (s : StripeNo) (f : Fragment) (l : Lease) (k : Kind) where
  granted-by : has_stripe st s ≡ true → lease_of st s f ≡ None → (needed beyond : Bool) → needs nodes st s f ≡ needed → (seat : Option Seat) → chosen nodes st s f ≡ seat
      → (refuse_if (not needed) refusal.NotNeeded st (refuse_if beyond refusal.Unrecoverable st (granted nodes past st session s f seat))).0
      ≡ Granted l k → IsGrant nodes st l
  granted-by there new false beyond need seat is e = absurd (not-granted refusal.NotNeeded l k e)
  granted-by there new true true need seat is e = absurd (not-granted refusal.Unrecoverable l k e)
  granted-by there new true false need None is e = absurd (not-granted (refusal.NoLawfulNode f) l k e)
  granted-by there new true false need (Some seat) is e =
      subst (IsGrant nodes st) (same-lease (new_lease past st session s f seat) l _ k e) (record { there = there; own = needs-own nodes st s f need; new = new; chosen_is = is })

  lease-by : (there : Bool) → has_stripe st s ≡ there → (o : Option Lease) → lease_of st s f ≡ o
      → (refuse_if (not there) refusal.UnknownStripe st (lease_answer nodes past st session s f o)).0 ≡ Granted l k → IsGrant nodes st l
  lease-by false is o live e = absurd (not-granted refusal.UnknownStripe l k e)
  lease-by true is (Some m) live e = absurd (not-granted (refusal.AlreadyLeased m.epoch) l k e)
  lease-by true is None live e = granted-by is live (needs nodes st s f) (is_beyond_repair nodes st s f) refl (chosen nodes st s f) refl e

  -- a lease was granted: its stripe is there, its fragment had none, and its target was chosen
  pub lease-told : (lease_outcome nodes past st session s f).0 ≡ Granted l k → IsGrant nodes st l
  unfolding lease_outcome
  lease-told e = lease-by (has_stripe st s) refl (lease_of st s f) refl e

module _ (nodes : List NodeInfo) (past : List Entry) (st : State) (session : SessionNo) (l : Lease) (k : Kind) where
  next-by : (o : Option StripeFragment) → (next_answer nodes past st session o).0 ≡ Granted l k → IsGrant nodes st l
  next-by (Some p) e = lease-told nodes past st session p.0 p.1 l k e
  next-by None e = absurd (let never : Idle ≡ Granted l k = e in cc)

  -- and so it is where the most urgent repair was asked for
  pub next-told : (next_outcome nodes past st session).0 ≡ Granted l k → IsGrant nodes st l
  unfolding next_outcome
  next-told e = next-by (next_of nodes st) e

module _ (nodes : List NodeInfo) (st : State) (session : SessionNo) (s : StripeNo) (f : Fragment) (e : ℕ) where
  live-by : (o : Option Lease) → lease_of st s f ≡ o → (done_answer nodes st session s f (at_epoch e o)).0 ≡ Ended → IsSome (lease_of st s f)
  live-by None live told = absurd (not-ended refusal.Stale told)
  live-by (Some l) live told = rw live refl

  done-by : (there : Bool) → has_stripe st s ≡ there
      → (refuse_if (not there) refusal.UnknownStripe st (done_answer nodes st session s f (at_epoch e (lease_of st s f)))).0 ≡ Ended
      → (has_stripe st s ≡ true) × IsSome (lease_of st s f)
  done-by false is told = absurd (not-ended refusal.UnknownStripe told)
  done-by true is told = (is, live-by (lease_of st s f) refl told)

  -- a repair was reported: its stripe is there, and its fragment has a lease
  pub done-told : (done_outcome nodes st session s f e).0 ≡ Ended → (has_stripe st s ≡ true) × IsSome (lease_of st s f)
  unfolding done_outcome
  done-told told = done-by (has_stripe st s) refl told
