-- Which replies to Place, Place6 and Drop depend on whether the store has the stripe, and what is left after Drop.
use Rattle.std.proofs.Common.{◌≡◌, ◌≢◌, ◌↔◌, true, not, List, filter, refl, sym, ap, ◌∙◌, subst}
use Rattle.std.specs.List.{Contains}
use Rattle.std.proofs.lemmas.Bool.{not-true, eqb-false, ne_eqb}
use Rattle.lrc_code.specs.declared.numbers.StripeNo.{StripeNo}
use Rattle.lrc_code.specs.Numbers.{same_stripe}
use Rattle.lrc_code.proofs.NumbersLemmas.{equal_stripes}
use Rattle.lrc_topology.specs.declared.seat.Held.{Held}
use Rattle.lrc_terms.specs.declared.lease.Lease.{Lease as LeaseRecord}
use Rattle.lrc_rules.specs.declared.command.Command.TheVariants.{Drop}
use Rattle.lrc_rules.specs.declared.reply.Reply.TheVariants.{Dropped}
use Rattle.lrc_rules.specs.States.{State, has_stripe}
use Rattle.lrc_rules.specs.Steps.{is_other, without_stripe, drop_outcome}
use Rattle.lrc_rules.specs.Changes.{changed_by}
use Rattle.lrc_rules.proofs.MemberLemmas.{filter-member, member-filter}
use Rattle.lrc_rules.proofs.StepLemmas.{drop-changed}

-- ---- Place and Place6

module _ (st : State) (s : StripeNo) where
  pub there-dropped : has_stripe st s ≡ true → drop_outcome st s ≡ (Dropped, without_stripe st s)
  unfolding drop_outcome
  there-dropped there = rw there refl

  other-test : (r : StripeNo) → r ≢ s → is_other s r ≡ true
  other-test r other = ap not (ne_eqb s.value r.value (λ same. other (equal_stripes r s (sym same))))

  test-other : (r : StripeNo) → is_other s r ≡ true → r ≢ s
  test-other r pass same = eqb-false s.value r.value (not-true (same_stripe s r) pass) (ap (λ (t : StripeNo). t.value) (sym same))

  -- exactly the elements of other stripes are left
  others-left : {X : Type 0} (stripe_of : X → StripeNo) (xs : List X) (x : X)
      → Contains (filter (λ (y : X). is_other s (stripe_of y)) xs) x ↔ (Contains xs x × (stripe_of x ≢ s))
  others-left {X} stripe_of xs x = (
    λ here.
        let parts = filter-member (λ (y : X). is_other s (stripe_of y)) xs x here in
        (parts.0, test-other (stripe_of x) parts.1),
    λ so. member-filter (λ (y : X). is_other s (stripe_of y)) xs x so.0 (other-test (stripe_of x) so.1),
  )

  left-where : (P : State → Type 0) → P (without_stripe st s) → (drop_outcome st s).0 ≡ Dropped → P (drop_outcome st s).1
  left-where P so told = subst P (sym (drop-changed st s ∙ ap (changed_by st (Drop s)) told)) so

  pub stripes-left : (r : StripeNo) → (drop_outcome st s).0 ≡ Dropped
      → Contains (drop_outcome st s).1.stripes r ↔ (Contains st.stripes r × (r ≢ s))
  stripes-left r =
      left-where (λ (next : State). Contains next.stripes r ↔ (Contains st.stripes r × (r ≢ s)))
      (others-left (λ (t : StripeNo). t) st.stripes r)

  pub codes-left : (r : StripeNo) → (drop_outcome st s).0 ≡ Dropped
      → Contains (drop_outcome st s).1.narrow r ↔ (Contains st.narrow r × (r ≢ s))
  codes-left r =
      left-where (λ (next : State). Contains next.narrow r ↔ (Contains st.narrow r × (r ≢ s)))
      (others-left (λ (t : StripeNo). t) st.narrow r)

  pub homes-left : (h : Held) → (drop_outcome st s).0 ≡ Dropped
      → Contains (drop_outcome st s).1.homes h ↔ (Contains st.homes h × (h.stripe ≢ s))
  homes-left h =
      left-where (λ (next : State). Contains next.homes h ↔ (Contains st.homes h × (h.stripe ≢ s)))
      (others-left (λ (g : Held). g.stripe) st.homes h)

  pub leases-left : (l : LeaseRecord) → (drop_outcome st s).0 ≡ Dropped
      → Contains (drop_outcome st s).1.leases l ↔ (Contains st.leases l × (l.stripe ≢ s))
  leases-left l =
      left-where (λ (next : State). Contains next.leases l ↔ (Contains st.leases l × (l.stripe ≢ s)))
      (others-left (λ (k : LeaseRecord). k.stripe) st.leases l)
