-- The replies to the commands of leases, case by case.
use Rattle.std.proofs.Common.{◌≡◌, ℕ, Bool, true, false, not, if◌then◌else◌, List, Option, Some, None, Result, Ok, Err, refl, ap, ap₂, ◌∙◌}
use Rattle.lrc_code.specs.declared.numbers.StripeNo.{StripeNo}
use Rattle.lrc_code.specs.declared.numbers.SessionNo.{SessionNo}
use Rattle.lrc_code.specs.declared.numbers.Fragment.{Fragment}
use Rattle.lrc_topology.specs.declared.NodeInfo.{NodeInfo}
use Rattle.lrc_topology.specs.declared.seat.Seat.{Seat}
use Rattle.lrc_terms.specs.declared.lease.Lease.{Lease}
use Rattle.lrc_rules.specs.declared.entry.Entry.{Entry}
use Rattle.lrc_rules.specs.declared.reply.Reply.{Reply}
use Rattle.lrc_rules.specs.declared.reply.Reply.TheVariants.{Granted, Ended, Refused}
use Rattle.lrc_rules.specs.declared.refusal.Refusal.{Refusal}
use Rattle.lrc_rules.specs.declared.refusal.Refusal.TheVariants as refusal
use Rattle.lrc_rules.specs.States.{State, has_stripe, lease_of, online_at}
use Rattle.lrc_rules.specs.Placement.{chosen}
use Rattle.lrc_rules.specs.Outcomes.{Outcome, refused, refuse_if}
use Rattle.lrc_rules.specs.Repairs.{needs, kind, is_beyond_repair}
use Rattle.lrc_rules.specs.Leases.{new_lease, granted, lease_answer, lease_outcome, at_epoch, is_held_by, moved_in, without_lease, done_answer, done_outcome, abandon_answer, abandon_outcome}
use Rattle.lrc_store.specs.declared.repair.Repair.{Repair}
use Rattle.lrc_store.specs.Repairing.{repair_by, repair_or_refusal}
use Rattle.lrc_store.specs.Reports.{held_lease_if, reported}

-- ---- Lease

module _ (nodes : List NodeInfo) (past : List Entry) (st : State) (session : SessionNo) (s : StripeNo) (f : Fragment) where
  -- the answer to a session that asks for a lease, by the repair that it is for
  abbrev pub answer-by : Result Repair Refusal → Reply
  answer-by (Ok r) = Granted (new_lease past st session r.stripe r.fragment r.target) r.kind
  answer-by (Err e) = Refused e

  abbrev reply-by : Bool → Option Lease → Reply
  reply-by there o = (refuse_if (not there) refusal.UnknownStripe st (lease_answer nodes past st session s f o)).0

  reply-is : (there : Bool) (o : Option Lease) → has_stripe st s ≡ there → lease_of st s f ≡ o
      → (lease_outcome nodes past st session s f).0 ≡ reply-by there o
  unfolding lease_outcome
  reply-is there o is live = ap₂ reply-by is live

  pub lease-absent : has_stripe st s ≡ false → (lease_outcome nodes past st session s f).0 ≡ Refused refusal.UnknownStripe
  lease-absent absent = reply-is false (lease_of st s f) absent refl

  pub lease-again : (l : Lease) → has_stripe st s ≡ true → lease_of st s f ≡ Some l
      → (lease_outcome nodes past st session s f).0 ≡ Refused (refusal.AlreadyLeased l.epoch)
  lease-again l there live = reply-is true (Some l) there live

  module _ (there : has_stripe st s ≡ true) (none : lease_of st s f ≡ None) where
    abbrev new-by : Bool → Bool → Reply
    new-by needed beyond =
        (refuse_if (not needed) refusal.NotNeeded st
        (refuse_if beyond refusal.Unrecoverable st (granted nodes past st session s f (chosen nodes st s f)))).0

    new-is : (needed beyond : Bool) → needs nodes st s f ≡ needed → is_beyond_repair nodes st s f ≡ beyond
        → (lease_outcome nodes past st session s f).0 ≡ new-by needed beyond
    new-is needed beyond is lost = reply-is true None there none ∙ ap₂ new-by is lost

    pub lease-unneeded : needs nodes st s f ≡ false → (lease_outcome nodes past st session s f).0 ≡ Refused refusal.NotNeeded
    lease-unneeded unneeded = new-is false (is_beyond_repair nodes st s f) unneeded refl

    decided-by : (beyond : Bool) (seat : Option Seat)
        → (refuse_if beyond refusal.Unrecoverable st (granted nodes past st session s f seat)).0
        ≡ answer-by (repair_by s f (if beyond then None else Some (kind nodes st s f)) seat)
    decided-by true seat = refl
    decided-by false None = refl
    decided-by false (Some seat) = refl

    pub lease-decided : needs nodes st s f ≡ true → (lease_outcome nodes past st session s f).0 ≡ answer-by (repair_or_refusal nodes st s f)
    lease-decided needed =
        new-is true (is_beyond_repair nodes st s f) needed refl ∙ decided-by (is_beyond_repair nodes st s f) (chosen nodes st s f)

-- ---- Abandon and Done

-- the outcome of a report that names this lease, or is refused
abbrev outcome-of : State → (Lease → Outcome) → Result Lease Refusal → Outcome
outcome-of st next (Ok l) = next l
outcome-of st next (Err r) = refused r st

held-by : (st : State) (next : Lease → Outcome) (l : Lease) (held : Bool)
    → refuse_if (not held) (refusal.NotHolder l.holder) st (next l)
    ≡ outcome-of st next (if held then Ok l else Err (refusal.NotHolder l.holder))
held-by st next l true = refl
held-by st next l false = refl

module _ (st : State) (session : SessionNo) (s : StripeNo) (f : Fragment) (e : ℕ) where
  abbrev abandon-next : Lease → Outcome
  abandon-next l = (Ended, without_lease st s f)

  abandon-by : (there : Bool) (o : Option Lease)
      → refuse_if (not there) refusal.UnknownStripe st (abandon_answer st session s f o) ≡ outcome-of st abandon-next (held_lease_if there session o)
  abandon-by false o = refl
  abandon-by true None = refl
  abandon-by true (Some l) = held-by st abandon-next l (is_held_by session l)

  abandon-is : (r : Result Lease Refusal) → reported st session s f e ≡ r → (abandon_outcome st session s f e).0 ≡ (outcome-of st abandon-next r).0
  unfolding abandon_outcome
  abandon-is r is =
      ap (λ (o : Outcome). o.0) (abandon-by (has_stripe st s) (at_epoch e (lease_of st s f))) ∙ ap (λ (x : Result Lease Refusal). (outcome-of st abandon-next x).0) is

  pub abandon-refused : (r : Refusal) → reported st session s f e ≡ Err r → (abandon_outcome st session s f e).0 ≡ Refused r
  abandon-refused r is = abandon-is (Err r) is

  pub abandon-held : (l : Lease) → reported st session s f e ≡ Ok l → (abandon_outcome st session s f e).0 ≡ Ended
  abandon-held l is = abandon-is (Ok l) is

  module _ (nodes : List NodeInfo) where
    abbrev done-next : Lease → Outcome
    done-next l = refuse_if (not (online_at nodes st l.target.node)) (refusal.TargetOffline l.target.node) st (Ended, moved_in st s f l.target)

    done-by : (there : Bool) (o : Option Lease)
        → refuse_if (not there) refusal.UnknownStripe st (done_answer nodes st session s f o) ≡ outcome-of st done-next (held_lease_if there session o)
    done-by false o = refl
    done-by true None = refl
    done-by true (Some l) = held-by st done-next l (is_held_by session l)

    done-is : (r : Result Lease Refusal) → reported st session s f e ≡ r → (done_outcome nodes st session s f e).0 ≡ (outcome-of st done-next r).0
    unfolding done_outcome
    done-is r is =
        ap (λ (o : Outcome). o.0) (done-by (has_stripe st s) (at_epoch e (lease_of st s f))) ∙ ap (λ (x : Result Lease Refusal). (outcome-of st done-next x).0) is

    pub done-refused : (r : Refusal) → reported st session s f e ≡ Err r → (done_outcome nodes st session s f e).0 ≡ Refused r
    done-refused r is = done-is (Err r) is

    pub done-held : (l : Lease) → reported st session s f e ≡ Ok l → (online : Bool) → online_at nodes st l.target.node ≡ online
        → (done_outcome nodes st session s f e).0
        ≡ (refuse_if (not online) (refusal.TargetOffline l.target.node) st (Ended, moved_in st s f l.target)).0
    done-held l is online known =
        done-is (Ok l) is
        ∙ ap (λ (b : Bool). (refuse_if (not b) (refusal.TargetOffline l.target.node) st (Ended, moved_in st s f l.target)).0) known
