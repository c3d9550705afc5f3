-- The state after a report, whether it is accepted or not.
use Rattle.std.proofs.Common.{◌≡◌, ℕ, ◌&&◌, Bool, true, false, eqb, List, Option, Some, None, if◌then◌else◌, refl, sym, ap, ◌∙◌, inl, inr}
use Rattle.std.proofs.lemmas.Bool.{cases_Bool, eq-eqb, and_parts}
use Rattle.std.proofs.lemmas.Option.{same_Some}
use Rattle.lrc_code.specs.declared.numbers.StripeNo.{StripeNo}
use Rattle.lrc_code.specs.declared.numbers.SessionNo.{SessionNo}
use Rattle.lrc_code.specs.declared.numbers.Fragment.{Fragment}
use Rattle.lrc_code.specs.Numbers.{same_stripe}
use Rattle.lrc_topology.specs.declared.NodeInfo.{NodeInfo}
use Rattle.lrc_topology.specs.declared.seat.Seat.{Seat}
use Rattle.lrc_terms.specs.Levels.{homes_of}
use Rattle.lrc_rules.specs.States.{State, lease_of, online_at}
use Rattle.lrc_terms.specs.declared.lease.Lease.{Lease}
use Rattle.lrc_terms.specs.Leased.{Leased, leases_in}
use Rattle.lrc_terms.proofs.LeaseLemmas.{leased_of-less}
use Rattle.lrc_topology.specs.declared.seat.Held.{Held}
use Rattle.lrc_terms.specs.Levels.{home_of}
use Rattle.lrc_rules.specs.States.{has_stripe}
use Rattle.lrc_rules.specs.Leases.{without_lease, without_home, moved_in, at_epoch, is_held_by, done_answer, done_outcome}
use Rattle.lrc_rules.proofs.LookUpLemmas.{homes-with, homes-cleared}
use Rattle.lrc_rules.proofs.LeaseStepLemmas.{at_epoch-some}

-- ---- the state after a report

-- the target of the lease, if a report of the session under it is accepted
abbrev pub taken_under : List NodeInfo → State → SessionNo → Option Lease → Option Seat
taken_under nodes st session None = None
taken_under nodes st session (Some l) = if is_held_by session l && online_at nodes st l.target.node then Some l.target else None

-- the target of the lease with which a report is accepted, if it is
abbrev pub taken_in : List NodeInfo → State → SessionNo → StripeNo → Fragment → ℕ → Option Seat
taken_in nodes st session t f e = if has_stripe st t then taken_under nodes st session (at_epoch e (lease_of st t f)) else None

-- the state with the fragment's home moved to this seat, if there is one
abbrev pub moved_by : State → StripeNo → Fragment → Option Seat → State
moved_by st t f None = st
moved_by st t f (Some seat) = moved_in st t f seat

-- the fragment is the one that moves
abbrev pub is_moved : StripeNo → Fragment → StripeNo → ℕ → Bool
is_moved t f s g = same_stripe t s && eqb f.value g

module _ (nodes : List NodeInfo) (st : State) (session : SessionNo) (t : StripeNo) (f : Fragment) (e : ℕ) where
  pub done-is : (done_outcome nodes st session t f e).1 ≡ moved_by st t f (taken_in nodes st session t f e)
  unfolding done_outcome
  done-is = elim (cases_Bool (has_stripe st t)) [
    | inr none ↦ rw none refl
    | inl there ↦ rw there (by (at_epoch e (lease_of st t f)))
  ] where
    by : (o : Option Lease) → (done_answer nodes st session t f o).1 ≡ moved_by st t f (taken_under nodes st session o)
    by None = refl
    by (Some l) = elim (cases_Bool (is_held_by session l)) [
      | inr other ↦ rw other refl
      | inl own ↦ elim (cases_Bool (online_at nodes st l.target.node)) [ inl on ↦ rw (own, on) refl | inr off ↦ rw (own, off) refl ]
    ]

  -- the target is that of the fragment's live lease, and is online
  pub taken-told : (seat : Seat) → taken_in nodes st session t f e ≡ Some seat → (l : Lease) × (lease_of st t f ≡ Some l) × (l.target ≡ seat) × (online_at nodes st seat.node ≡ true)
  taken-told seat is = elim (cases_Bool (has_stripe st t)) [
    | inr none ↦ absurd (let no : None ≡ Some seat = sym (rw none refl) ∙ is in cc)
    | inl there ↦ by (at_epoch e (lease_of st t f)) refl (sym (rw there refl) ∙ is)
  ] where
    under : (l : Lease) (b : Bool) → (is_held_by session l && online_at nodes st l.target.node) ≡ b → (if b then Some l.target else None) ≡ Some seat
        → (l.target ≡ seat) × (online_at nodes st seat.node ≡ true)
    under l true hit same =
        let target : l.target ≡ seat = same_Some l.target seat same in
        (target, ap (λ (k : Seat). online_at nodes st k.node) (sym target) ∙ (and_parts (is_held_by session l) _ hit).1)
    under l false hit same = absurd (cc)

    by : (o : Option Lease) → at_epoch e (lease_of st t f) ≡ o → taken_under nodes st session o ≡ Some seat
        → (l : Lease) × (lease_of st t f ≡ Some l) × (l.target ≡ seat) × (online_at nodes st seat.node ≡ true)
    by None at same = absurd (cc)
    by (Some l) at same =
        let both = under l (is_held_by session l && online_at nodes st l.target.node) refl same in
        (l, (at_epoch-some e (lease_of st t f) l at).0, both.0, both.1)

module _ (st : State) (t : StripeNo) (f : Fragment) where
  no-seat : (o : Option Held) (homes : List Held) → homes_of homes t f.value ≡ None → home_of homes t f.value ≡ o → o ≡ None
  no-seat None homes none is = refl
  no-seat (Some h) homes none is = absurd (let no : Some h.seat ≡ None = rw is at none in cc)

  own : (eqb t.value t.value && eqb f.value f.value) ≡ true
  own = rw (eq-eqb t.value t.value refl, eq-eqb f.value f.value refl) refl

  pub moved-homes : (seat : Seat) (s : StripeNo) (g : ℕ) → homes_of (moved_in st t f seat).homes s g ≡ (if is_moved t f s g then Some seat else homes_of st.homes s g)
  moved-homes seat s g =
      let bare = without_lease st t f in
      let base = without_home bare t f in
      let none : homes_of base.homes t f.value ≡ None = homes-cleared bare t f t f.value ∙ rw own refl in
      homes-with base t f seat (no-seat (home_of base.homes t f.value) base.homes none refl) s g
      ∙ by (is_moved t f s g) refl
    where
      by : (b : Bool) → is_moved t f s g ≡ b
          → (if b then Some seat else homes_of (without_home (without_lease st t f) t f).homes s g) ≡ (if b then Some seat else homes_of st.homes s g)
      by true is = refl
      by false is = homes-cleared (without_lease st t f) t f s g ∙ rw is refl

  pub moved-leases : (seat : Seat) (s : StripeNo) (g : ℕ) → leases_in (moved_in st t f seat).leases s g ≡ (if is_moved t f s g then None else leases_in st.leases s g)
  moved-leases seat s g = ap (λ (x : Leased). x.leases s g) (leased_of-less st.leases t f 0)
