-- All that a command touches is within its reach, so a walk over that finds it.
use Rattle.std.proofs.Common.{◌≡◌, ℕ, ◌+◌, ◌*◌, ◌-◌, ◌/◌, ◌<◌, ◌≤◌, zero, suc, Bool, true, false, if◌then◌else◌, ◌&&◌, nat_eq, List, [], ◌++◌, map, count_by, Option, Some, None, refl, sym, ap, ◌∙◌, subst, append-nil, arith}
use Rattle.std.specs.Prelude.{filter}
use Rattle.std.specs.List.{filter_map, range_with_len, cons_option}
use Rattle.std.proofs.Math.Path.{fun_ext}
use Rattle.std.proofs.Math.Nat.{mod-eq_of_lt}
use Rattle.std.proofs.lemmas.Bool.{eqb-true, and_parts}
use Rattle.std.proofs.lemmas.List.Elements.{filter_map-append, All-contains}
use Rattle.lrc_code.specs.declared.numbers.StripeNo.{StripeNo}
use Rattle.lrc_code.specs.declared.numbers.SessionNo.{SessionNo}
use Rattle.lrc_code.specs.Numbers.{same_stripe}
use Rattle.lrc_topology.specs.declared.NodeInfo.{NodeInfo}
use Rattle.lrc_terms.specs.declared.lease.Lease.{Lease as LeaseRecord}
use Rattle.lrc_terms.specs.Leased.{ends_at}
use Rattle.lrc_terms.specs.Stripes.{StripeFragment}
use Rattle.lrc_terms.proofs.LeaseLemmas.{leases_in-contains}
use Rattle.lrc_rules.specs.declared.command.Command.{Command}
use Rattle.lrc_rules.specs.declared.command.Command.TheVariants.{Place, Place6, Drop, Done, Abandon, Revoke, Fail, Tick}
use Rattle.lrc_rules.specs.declared.reply.Reply.{Reply}
use Rattle.lrc_rules.specs.declared.reply.Reply.TheVariants.{Placed, Placed6, Dropped, Granted, Idle, Ended, Changed, Ticked, Refused}
use Rattle.lrc_rules.specs.declared.entry.Entry.{Entry}
use Rattle.lrc_rules.specs.States.{State}
use Rattle.lrc_rules.specs.Goodness.{AreSeated}
use Rattle.lrc_rules.specs.Steps.{step}
use Rattle.lrc_rules.specs.Leases.{tick_outcome}
use Rattle.lrc_rules.specs.Changes.{can_get}
use Rattle.lrc_rules.proofs.MemberLemmas.{count-none}
use Rattle.lrc_rules.proofs.ReplyLemmas.{step-gets}
use Rattle.lrc_book.specs.Looks.{places}
use Rattle.lrc_walks.specs.WalkRows.{place_at}
use Rattle.lrc_walks.proofs.FoundLemmas.{found-part, found-map, found-passing, range-split}
use Rattle.lrc_walks.proofs.PlaceLemmas.{places-are}
use Rattle.lrc_changes.specs.declared.touch.Former.{Former}
use Rattle.lrc_changes.specs.Changes.{own_lease, former, changed}
use Rattle.lrc_changes.specs.Touched.{ends, touches, touched_at, places_of, reach_of, reach}
use Rattle.lrc_changes.proofs.StepLemmas.{touched-right}

-- ---- what is found outside

module _ {T : Type 0} (f : ℕ → Option T) where
  found-none : (a n : ℕ) → ((i : ℕ) → a ≤ i → i < a + n → f i ≡ None) → filter_map f (range_with_len a n) ≡ []
  found-none a zero none = refl
  found-none a (suc n) none =
      ap (λ (o : Option T). cons_option o (filter_map f (range_with_len (a + 1) n))) (none a (omega arith) (omega arith))
      ∙ found-none (a + 1) n (λ i low high. none i (omega (arith, low)) (omega (arith, high)))

  -- nothing is lost where nothing is found outside of the range
  found-within : (start end n : ℕ) → end ≤ n → ((i : ℕ) → i < start → i < n → f i ≡ None)
      → ((i : ℕ) → end ≤ i → i < n → f i ≡ None) → filter_map f (range_with_len start (end - start)) ≡ filter_map f (range_with_len 0 n)
  found-within start end n short before after =
      let rest : n ≡ end + (n - end) = omega (arith, short) in
      found-part f start end (λ i early low. before i early (omega (arith, low, short)))
      ∙ sym (ap (λ k. filter_map f (range_with_len 0 k)) rest ∙ ap (filter_map f) (range-split 0 end (n - end))
      ∙ filter_map-append f (range_with_len 0 end) (range_with_len (0 + end) (n - end))
      ∙ ap (λ (l : List T). filter_map f (range_with_len 0 end) ++ l) (found-none (0 + end) (n - end) (λ i low high. after i (omega (arith, low)) (omega (arith, high, short))))
      ∙ append-nil (filter_map f (range_with_len 0 end)))

-- ---- reach

same_ticked : (a b c d : ℕ) → Ticked a b ≡ Ticked c d → (a ≡ c) × (b ≡ d)
same_ticked a b c d e = (cc, cc)

own-place : (s : StripeNo) (k : ℕ) → k < 65536 → same_stripe s (place_at k).0 ≡ true → (16 * s.value ≤ k) × (k < 16 * s.value + 16)
own-place s k low own =
    let same : s.value ≡ k / 16 = eqb-true _ _ own ∙ mod-eq_of_lt (omega (arith, low)) in
    (omega (arith, same), omega (arith, same))

module _ (nodes : List NodeInfo) (past : List Entry) (st : State) (session : SessionNo) where
  -- no lease ends if none is counted
  none-ends : (clock : ℕ) (p : StripeFragment) (o : Option LeaseRecord) → own_lease st p ≡ o → count_by (ends_at clock) st.leases ≡ 0 → ends clock o ≡ true → ⊥
  none-ends clock p None is none hit = (let never : false ≡ true = hit in cc)
  none-ends clock p (Some l) is none hit =
      let miss = All-contains (λ (m : LeaseRecord). ends_at clock m ≡ false) st.leases l (count-none (ends_at clock) st.leases none) (leases_in-contains st.leases p.0 p.1.value l is) in
      (let never : true ≡ false = sym hit ∙ miss in cc)

  gets : (c : Command) (r : Reply) → (step nodes past st session c).0 ≡ r → can_get c r ≡ true
  gets c r told = subst (λ (q : Reply). can_get c q ≡ true) told (step-gets nodes past st session c)

  module _ (k : ℕ) (low : k < 65536) where
    abbrev IsIn : ℕ × ℕ → Type 0
    IsIn range = (range.0 ≤ k) × (k < range.1)

    own-first : (s : StripeNo) (b : Bool) → (same_stripe s (place_at k).0 && b) ≡ true → IsIn (places_of s)
    own-first s b hit = own-place s k low (and_parts (same_stripe s (place_at k).0) b hit).0

    -- what is touched is within reach
    in-reach : (c : Command) (r : Reply) → (step nodes past st session c).0 ≡ r → touches c r (former st (place_at k)) ≡ true → IsIn (reach c r)
    unfolding tick_outcome
    in-reach (Place s) (Placed seats) told hit = own-place s k low hit
    in-reach (Place6 s) (Placed6 seats) told hit = own-first s _ hit
    in-reach (Drop s) Dropped told hit = own-first s _ hit
    in-reach (Done s f e) Ended told hit = own-first s _ hit
    in-reach (Abandon s f e) Ended told hit = own-first s _ hit
    in-reach (Revoke s f) Ended told hit = own-first s _ hit
    in-reach (Fail n) Changed told hit = (omega arith, low)
    in-reach Tick (Ticked clock ended) told hit = by (nat_eq ended 0) refl where
      by : (b : Bool) → nat_eq ended 0 ≡ b → IsIn (if b then (0, 0) else (0, 65536))
      by false some = (omega arith, low)
      by true none =
          let same : (st.clock + 1 ≡ clock) × (count_by (ends_at (st.clock + 1)) st.leases ≡ ended) = same_ticked _ _ clock ended told in
          let zero_count : count_by (ends_at (st.clock + 1)) st.leases ≡ 0 = same.1 ∙ eqb-true ended 0 none in
          absurd (none-ends clock (place_at k) (own_lease st (place_at k)) refl (subst (λ (n : ℕ). count_by (ends_at n) st.leases ≡ 0) same.0 zero_count) hit)
    in-reach c (Ticked clock ended) told hit = absurd (let never : false ≡ true = gets c (Ticked clock ended) told in cc)
    in-reach c (Granted l kind) told hit = own-first l.stripe _ hit
    in-reach c r told hit = absurd (let never : false ≡ true = hit in cc)

  -- ---- the walk

  module _ (c : Command) (r : Reply) (told : (step nodes past st session c).0 ≡ r) where
    abbrev test : StripeFragment → Bool
    test p = touches c r (former st p)

    abbrev row_of : StripeFragment → Option Former
    row_of p = if test p then Some (former st p) else None

    outside : (i : ℕ) → i < 65536 → (((reach c r).0 ≤ i) × (i < (reach c r).1) → ⊥) → touched_at st c r i ≡ None
    outside i low out = by (test (place_at i)) refl where
      by : (b : Bool) → test (place_at i) ≡ b → ◌≡◌ {A = Option Former} (if b then Some (former st (place_at i)) else None) None
      by true hit = absurd (out (in-reach i low c r told hit))
      by false miss = refl

    walked : (n : ℕ) (all : List StripeFragment) → n ≤ 65536 → (reach c r).1 ≤ n → all ≡ map place_at (range_with_len 0 n)
        → filter_map (touched_at st c r) (range_with_len (reach c r).0 ((reach c r).1 - (reach c r).0)) ≡ map (former st) (filter test all)
    walked n all few end are =
        found-within (touched_at st c r) (reach c r).0 (reach c r).1 n end
        (λ i early low. outside i (omega (arith, low, few)) (λ within. omega (arith, early, within.0)))
        (λ i late low. outside i (omega (arith, low, few)) (λ within. omega (arith, late, within.1)))
        ∙ sym (found-map row_of place_at (range_with_len 0 n)) ∙ ap (filter_map row_of) (sym are) ∙ found-passing test (former st) all

    -- what the walk finds is what the step changes
    pub all-found : AreSeated nodes st → (reach c r).1 ≤ 65536
        → filter_map (touched_at st c r) (range_with_len (reach c r).0 ((reach c r).1 - (reach c r).0))
        ≡ map (former st) (changed st (step nodes past st session c).1)
    unfolding changed
    all-found seated end =
        walked 65536 places (omega arith) end places-are
        ∙ ap (λ (t : StripeFragment → Bool). map (former st) (filter t places)) (fun_ext (λ (p : StripeFragment). sym (touched-right nodes past st session p seated c r told)))

-- no place is past the last
places-end : (s : StripeNo) → (places_of s).1 ≤ 65536
places-end s = let low = s.in_range in omega (arith, low)

end-of : (c : Command) → (reach_of c).1 ≤ 65536
end-of (Place s) = places-end s
end-of (Place6 s) = places-end s
end-of (Drop s) = places-end s
end-of (Done s f e) = places-end s
end-of (Abandon s f e) = places-end s
end-of (Revoke s f) = places-end s
end-of (Fail n) = omega arith
end-of c = omega arith

pub reach-end : (c : Command) (r : Reply) → (reach c r).1 ≤ 65536
reach-end c Idle = omega arith
reach-end c (Refused q) = omega arith
reach-end c (Granted l kind) = places-end l.stripe
reach-end c (Ticked clock ended) = by (nat_eq ended 0) where
  by : (b : Bool) → (let range : ℕ × ℕ = if b then (0, 0) else (0, 65536) in range.1) ≤ 65536
  by true = omega arith
  by false = omega arith
reach-end c (Placed seats) = end-of c
reach-end c (Placed6 seats) = end-of c
reach-end c Dropped = end-of c
reach-end c Ended = end-of c
reach-end c Changed = end-of c
