-- When Lease gets each reply.
use Rattle.std.proofs.Common.{◌≡◌, Bool, true, false, not, ◌&&◌, IsSomeAnd, List, Option, Some, None, refl, sym, ap, ap₂, ◌∙◌, subst}
use Rattle.lrc_code.specs.declared.numbers.StripeNo.{StripeNo}
use Rattle.lrc_code.specs.declared.numbers.SessionNo.{SessionNo}
use Rattle.lrc_code.specs.declared.numbers.Fragment.{Fragment}
use Rattle.lrc_topology.specs.declared.NodeInfo.{NodeInfo}
use Rattle.lrc_topology.specs.declared.seat.Seat.{Seat}
use Rattle.lrc_terms.specs.declared.lease.Lease.{Lease as LeaseRecord}
use Rattle.lrc_rules.specs.declared.kind.Kind.{Kind}
use Rattle.lrc_rules.specs.declared.kind.Kind.TheVariants.{Local, Local3, Global, Move}
use Rattle.lrc_rules.specs.declared.reply.Reply.{Reply}
use Rattle.lrc_rules.specs.declared.reply.Reply.TheVariants.{Granted, Refused}
use Rattle.lrc_rules.specs.declared.refusal.Refusal.{Refusal}
use Rattle.lrc_rules.specs.declared.refusal.Refusal.TheVariants as refusal
use Rattle.lrc_rules.specs.declared.entry.Entry.{Entry}
use Rattle.lrc_rules.specs.States.{State, has_stripe, lease_of}
use Rattle.lrc_rules.specs.Placement.{chosen}
use Rattle.lrc_rules.specs.Repairs.{needs, is_safe, kind, is_global, is_beyond_repair}
use Rattle.lrc_rules.specs.Outcomes.{refuse_if}
use Rattle.lrc_rules.specs.Leases.{new_lease, granted, lease_answer, lease_outcome}
use Rattle.lrc_rules.specs.Granting.{IsOwed}

module _ (nodes : List NodeInfo) (past : List Entry) (st : State) (session : SessionNo) (s : StripeNo) (f : Fragment) where
  -- what each refusal means
  abbrev pub SaysRefused : Refusal → Type 0
  SaysRefused refusal.UnknownStripe = has_stripe st s ≡ false
  SaysRefused (refusal.AlreadyLeased e) = (has_stripe st s ≡ true) × IsSomeAnd (lease_of st s f) (λ l. l.epoch ≡ e)
  SaysRefused refusal.NotNeeded = (has_stripe st s ≡ true) × (lease_of st s f ≡ None) × (needs nodes st s f ≡ false)
  SaysRefused refusal.Unrecoverable =
      (has_stripe st s ≡ true) × (lease_of st s f ≡ None) × (needs nodes st s f ≡ true) × (kind nodes st s f ≡ Global) × (is_safe nodes st s ≡ false)
  SaysRefused (refusal.NoLawfulNode g) = (g ≡ f) × IsOwed nodes st s f × (chosen nodes st s f ≡ None)
  SaysRefused _ = ⊥

  -- what each reply means
  abbrev pub Says : Reply → Type 0
  Says (Granted l k) =
      IsOwed nodes st s f × (chosen nodes st s f ≡ Some l.target) × (l ≡ new_lease past st session s f l.target) × (k ≡ kind nodes st s f)
  Says (Refused r) = SaysRefused r
  Says _ = ⊥

  by-seat : IsOwed nodes st s f → (o : Option Seat) → chosen nodes st s f ≡ o → Says (granted nodes past st session s f o).0
  by-seat owed (Some seat) e = (owed, e, refl, refl)
  by-seat owed None e = (refl, owed, e)

  by-kind : has_stripe st s ≡ true → lease_of st s f ≡ None → needs nodes st s f ≡ true → (safe : Bool) → is_safe nodes st s ≡ safe → (k : Kind)
      → kind nodes st s f ≡ k
      → Says (refuse_if (not safe && is_global k) refusal.Unrecoverable st (granted nodes past st session s f (chosen nodes st s f))).0
  by-kind there none needed true is k from =
      by-seat (record { there = there; none = none; needed = needed; suffices = λ g. is }) (chosen nodes st s f) refl
  by-kind there none needed false is Global from = (there, none, needed, from, is)
  by-kind there none needed false is Move from =
      by-seat (record { there = there; none = none; needed = needed; suffices = λ g. absurd (let never : Move ≡ Global = sym from ∙ g in cc) }) (chosen nodes st s f) refl
  by-kind there none needed false is (Local sources) from =
      by-seat (record { there = there; none = none; needed = needed; suffices = λ g. absurd (let never : Local sources ≡ Global = sym from ∙ g in cc) }) (chosen nodes st s f) refl
  by-kind there none needed false is (Local3 sources) from =
      by-seat (record { there = there; none = none; needed = needed; suffices = λ g. absurd (let never : Local3 sources ≡ Global = sym from ∙ g in cc) }) (chosen nodes st s f) refl

  by-need : has_stripe st s ≡ true → lease_of st s f ≡ None → (b : Bool) → needs nodes st s f ≡ b
      → Says (refuse_if (not b) refusal.NotNeeded st (refuse_if (is_beyond_repair nodes st s f) refusal.Unrecoverable st (granted nodes past st session s f (chosen nodes st s f)))).0
  by-need there none false is = (there, none, is)
  by-need there none true is = by-kind there none is (is_safe nodes st s) refl (kind nodes st s f) refl

  by-lease : has_stripe st s ≡ true → (o : Option LeaseRecord) → lease_of st s f ≡ o → Says (lease_answer nodes past st session s f o).0
  by-lease there (Some l) is = (there, subst (λ (o : Option LeaseRecord). IsSomeAnd o (λ k. k.epoch ≡ l.epoch)) (sym is) refl)
  by-lease there None is = by-need there is (needs nodes st s f) refl

  by-stripe : (b : Bool) → has_stripe st s ≡ b
      → Says (refuse_if (not b) refusal.UnknownStripe st (lease_answer nodes past st session s f (lease_of st s f))).0
  by-stripe false is = is
  by-stripe true is = by-lease is (lease_of st s f) refl

  lease-says : Says (lease_outcome nodes past st session s f).0
  unfolding lease_outcome
  lease-says = by-stripe (has_stripe st s) refl

  -- a reply is given only if what it means holds
  pub lease-told : (r : Reply) → (lease_outcome nodes past st session s f).0 ≡ r → Says r
  lease-told r told = subst Says told lease-says

  -- ---- and always if it holds

  not-beyond : (safe : Bool) → is_safe nodes st s ≡ safe → (k : Kind) → kind nodes st s f ≡ k
      → (kind nodes st s f ≡ Global → is_safe nodes st s ≡ true) → (not safe && is_global k) ≡ false
  not-beyond true is k from suffices = refl
  not-beyond false is (Local sources) from suffices = refl
  not-beyond false is (Local3 sources) from suffices = refl
  not-beyond false is Move from suffices = refl
  not-beyond false is Global from suffices = absurd (let both : false ≡ true = sym is ∙ suffices from in cc)

  pub tell-granted : (l : LeaseRecord) (k : Kind) → Says (Granted l k) → (lease_outcome nodes past st session s f).0 ≡ Granted l k
  unfolding lease_outcome
  tell-granted l k (owed, at, is, from) =
      let repairable = not-beyond (is_safe nodes st s) refl (kind nodes st s f) refl owed.suffices in
      rw (owed.there, owed.none, owed.needed, repairable, at) (ap₂ Granted (sym is) (sym from))

  pub tell-none : (g : Fragment) → SaysRefused (refusal.NoLawfulNode g)
      → (lease_outcome nodes past st session s f).0 ≡ Refused (refusal.NoLawfulNode g)
  unfolding lease_outcome
  tell-none g (same, owed, none) =
      let repairable = not-beyond (is_safe nodes st s) refl (kind nodes st s f) refl owed.suffices in
      rw (owed.there, owed.none, owed.needed, repairable, none) (ap (λ (h : Fragment). Refused (refusal.NoLawfulNode h)) (sym same))

  pub tell-not_needed : SaysRefused refusal.NotNeeded → (lease_outcome nodes past st session s f).0 ≡ Refused refusal.NotNeeded
  unfolding lease_outcome
  tell-not_needed (there, none, unneeded) = rw (there, none, unneeded) refl

  beyond : is_safe nodes st s ≡ false → kind nodes st s f ≡ Global → (not (is_safe nodes st s) && is_global (kind nodes st s f)) ≡ true
  beyond unsafe from = ap₂ (λ (b : Bool) (k : Kind). not b && is_global k) unsafe from

  pub tell-unrecoverable : SaysRefused refusal.Unrecoverable → (lease_outcome nodes past st session s f).0 ≡ Refused refusal.Unrecoverable
  unfolding lease_outcome
  tell-unrecoverable (there, none, needed, from, unsafe) = rw (there, none, needed, beyond unsafe from) refl
