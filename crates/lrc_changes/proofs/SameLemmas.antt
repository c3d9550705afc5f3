-- The tests for the same home and the same lease.
use Rattle.std.proofs.Common.{◌≡◌, Bool, true, false, not, ◌&&◌, eqb, Option, Some, None, refl, sym, ap, ap₂, ◌∙◌, inl, inr}
use Rattle.std.proofs.lemmas.Bool.{cases_Bool, eqb-true, eq-eqb, and_parts}
use Rattle.lrc_code.proofs.NumbersLemmas.{equal_stripes, equal_fragments, equal_nodes}
use Rattle.lrc_topology.specs.declared.seat.Seat.{Seat}
use Rattle.lrc_terms.specs.declared.lease.Lease.{Lease}
use Rattle.lrc_terms.specs.Stripes.{StripeFragment}
use Rattle.lrc_rules.specs.States.{State}
use Rattle.lrc_rules.proofs.ReportedLemmas.{held-session}
use Rattle.lrc_changes.specs.Changes.{own_home, own_lease, is_same_seat, is_same_home, is_same_lease, is_changed}

seat-own : (a : Seat) → is_same_seat a a ≡ true
seat-own a = rw (eq-eqb a.node.value a.node.value refl, eq-eqb a.slot a.slot refl) refl

pub home-own : (o : Option Seat) → is_same_home o o ≡ true
home-own None = refl
home-own (Some a) = seat-own a

pub lease-own : (o : Option Lease) → is_same_lease o o ≡ true
lease-own None = refl
lease-own (Some a) =
    rw (eq-eqb a.stripe.value a.stripe.value refl, eq-eqb a.fragment.value a.fragment.value refl, eq-eqb a.holder.value a.holder.value refl, seat-own a.target, eq-eqb a.epoch a.epoch refl, eq-eqb a.expiry a.expiry refl) refl

same-seat : (a b : Seat) → is_same_seat a b ≡ true → a ≡ b
same-seat a b e =
    let parts = and_parts (eqb a.node.value b.node.value) (eqb a.slot b.slot) e in
    let node : a.node ≡ b.node = equal_nodes a.node b.node (eqb-true _ _ parts.0) in
    let slot : a.slot ≡ b.slot = eqb-true _ _ parts.1 in
    λ i. record { node = node i; slot = slot i }

pub same-home : (a b : Option Seat) → is_same_home a b ≡ true → a ≡ b
same-home None None e = refl
same-home None (Some b) e = absurd (cc)
same-home (Some a) None e = absurd (cc)
same-home (Some a) (Some b) e = ap (λ (s : Seat). Some s) (same-seat a b e)

equal_lease : (a b : Lease) → a.stripe ≡ b.stripe → a.fragment ≡ b.fragment → a.holder ≡ b.holder → a.target ≡ b.target → a.epoch ≡ b.epoch
    → a.expiry ≡ b.expiry → a ≡ b
equal_lease a b stripe fragment holder target epoch expiry =
    λ i. record { stripe = stripe i; fragment = fragment i; holder = holder i; target = target i; epoch = epoch i; expiry = expiry i }

pub same-lease : (a b : Option Lease) → is_same_lease a b ≡ true → a ≡ b
same-lease None None e = refl
same-lease None (Some b) e = absurd (cc)
same-lease (Some a) None e = absurd (cc)
same-lease (Some a) (Some b) e =
    let p = and_parts (eqb a.stripe.value b.stripe.value) _ e in
    let q = and_parts (eqb a.fragment.value b.fragment.value) _ p.1 in
    let r = and_parts (eqb a.holder.value b.holder.value) _ q.1 in
    let s = and_parts (is_same_seat a.target b.target) _ r.1 in
    let t = and_parts (eqb a.epoch b.epoch) (eqb a.expiry b.expiry) s.1 in
    ap (λ (l : Lease). Some l)
    (equal_lease a b (equal_stripes a.stripe b.stripe (eqb-true _ _ p.0)) (equal_fragments a.fragment b.fragment (eqb-true _ _ q.0))
    (held-session b.holder a r.0) (same-seat a.target b.target s.0) (eqb-true _ _ t.0) (eqb-true _ _ t.1))

module _ (was now : State) (p : StripeFragment) where
  pub stays : own_home was p ≡ own_home now p → own_lease was p ≡ own_lease now p → is_changed was now p ≡ false
  stays home lease =
      ap₂ (λ (h l : Bool). not (h && l))
      (ap (is_same_home (own_home was p)) (sym home) ∙ home-own (own_home was p))
      (ap (is_same_lease (own_lease was p)) (sym lease) ∙ lease-own (own_lease was p))

  -- a fragment that is not changed is as it was
  pub stayed : is_changed was now p ≡ false → (own_home was p ≡ own_home now p) × (own_lease was p ≡ own_lease now p)
  stayed e =
      let both = and_parts (is_same_home (own_home was p) (own_home now p)) (is_same_lease (own_lease was p) (own_lease now p)) (by _ e) in
      (same-home _ _ both.0, same-lease _ _ both.1)
    where
      by : (b : Bool) → not b ≡ false → b ≡ true
      by true e = refl
      by false e = absurd (let both : true ≡ false = e in cc)

  pub differs : (own_home was p ≡ own_home now p → own_lease was p ≡ own_lease now p → ⊥) → is_changed was now p ≡ true
  differs apart = elim (cases_Bool (is_changed was now p)) [
    | inl hit ↦ hit
    | inr miss ↦ absurd (let both = stayed miss in apart both.0 both.1)
  ]
