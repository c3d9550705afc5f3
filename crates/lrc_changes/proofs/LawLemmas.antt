-- Which fragments are changed, and in which order they stand.
use Rattle.std.proofs.Common.{◌≡◌, ◌≢◌, ℕ, ◌+◌, ◌*◌, ◌/◌, ◌%◌, ◌<◌, ◌≤◌, IsTrue, Bool, true, false, not, ◌&&◌, ◌||◌, nat_lt, List, map, length, get_or, inl, inr, refl, sym, ap, ap₂, ◌∙◌, subst, arith}
use Rattle.std.specs.Prelude.{◌⊎◌, ◌↔◌}
use Rattle.std.specs.List.{AllPairs, Contains, range_with_len}
use Rattle.std.proofs.lemmas.Bool.{cases_Bool, cases_lt, lt-ltb, eq-eqb}
use Rattle.std.proofs.lemmas.List.FromFn.{length-map-range_with_len, get_or-map-range_with_len}
use Rattle.std.proofs.lemmas.List.Kept.{AllPairs-filter}
use Rattle.std.proofs.Math.Nat.{mod-eq_of_lt}
use Rattle.lrc_terms.specs.Stripes.{StripeFragment, comes_before}
use Rattle.lrc_rules.specs.States.{State}
use Rattle.lrc_rules.proofs.MemberLemmas.{filter-member, member-filter}
use Rattle.lrc_book.specs.Looks.{places}
use Rattle.lrc_walks.specs.WalkRows.{place_at}
use Rattle.lrc_walks.proofs.PlaceLemmas.{places-are, place-is}
use Rattle.lrc_changes.specs.Changes.{own_home, own_lease, is_same_home, is_same_lease, is_changed, changed}
use Rattle.lrc_changes.proofs.SameLemmas.{home-own, lease-own, stayed, differs}

-- ---- all places

among : (n k : ℕ) (p : StripeFragment) → k < n → place_at k ≡ p → Contains (map place_at (range_with_len 0 n)) p
among n k p low at =
    let long : length (map place_at (range_with_len 0 n)) ≡ n = length-map-range_with_len place_at 0 n in
    (k, omega (arith, long, low), get_or-map-range_with_len place_at 0 n k k p low (omega arith) ∙ at)

every : (p : StripeFragment) → Contains places p
every p =
    let s = p.0.in_range in
    let f = p.1.in_range in
    let k : ℕ = 16 * p.0.value + p.1.value in
    let low : k < 65536 = omega (arith, s, f) in
    subst (λ (l : List StripeFragment). Contains l p) (sym places-are)
    (among 65536 k p low (place-is k p.0 p.1 low (omega (arith, f)) (omega (arith, f))))

before : (i j : ℕ) → i < j → j < 65536 → comes_before (place_at i) (place_at j) ≡ true
before i j less low =
    let a : (i / 16) % 4096 ≡ i / 16 = mod-eq_of_lt (omega (arith, less, low)) in
    let b : (j / 16) % 4096 ≡ j / 16 = mod-eq_of_lt (omega (arith, low)) in
    elim (cases_lt (i / 16) (j / 16)) [
      | inl lower ↦ rw (lt-ltb ((i / 16) % 4096) ((j / 16) % 4096) (omega (arith, a, b, lower))) refl
      | inr not_lower ↦
          let same : (i / 16) % 4096 ≡ (j / 16) % 4096 = omega (arith, a, b, not_lower, less) in
          let rest : i % 16 < j % 16 = omega (arith, not_lower, less) in
          by (nat_lt ((i / 16) % 4096) ((j / 16) % 4096)) (eq-eqb _ _ same) (lt-ltb (i % 16) (j % 16) rest)
    ]
  where
    by : (b : Bool) {c d : Bool} → c ≡ true → d ≡ true → (b || (c && d)) ≡ true
    by true c d = refl
    by false c d = ap₂ (λ (x y : Bool). x && y) c d

rising-by : (n : ℕ) → n ≤ 65536 → AllPairs (λ p q. IsTrue (comes_before p q)) (map place_at (range_with_len 0 n))
rising-by n few i j d less within =
    let long : length (map place_at (range_with_len 0 n)) ≡ n = length-map-range_with_len place_at 0 n in
    let high : j < n = omega (arith, long, within) in
    let low : i < n = omega (arith, high, less) in
    subst (λ (q : StripeFragment). IsTrue (comes_before (get_or (map place_at (range_with_len 0 n)) i d) q)) (sym (get_or-map-range_with_len place_at 0 n j j d high (omega arith)))
    (subst (λ (p : StripeFragment). IsTrue (comes_before p (place_at j))) (sym (get_or-map-range_with_len place_at 0 n i i d low (omega arith)))
    (before i j less (omega (arith, high, few))))

places-rising : AllPairs (λ p q. IsTrue (comes_before p q)) places
places-rising =
    subst (λ (l : List StripeFragment). AllPairs (λ p q. IsTrue (comes_before p q)) l) (sym places-are) (rising-by 65536 (omega arith))

-- ---- those that are changed

module _ (was now : State) where
  pub changed-rising : AllPairs (λ p q. IsTrue (comes_before p q)) (changed was now)
  unfolding changed
  changed-rising = AllPairs-filter (λ p q. IsTrue (comes_before p q)) (is_changed was now) places places-rising

  module _ (p : StripeFragment) where
    listed : is_changed was now p ≡ true → Contains (changed was now) p
    unfolding changed
    listed hit = member-filter (is_changed was now) places p (every p) hit

    tested : Contains (changed was now) p → is_changed was now p ≡ true
    unfolding changed
    tested here = (filter-member (is_changed was now) places p here).1

    apart : (a b : Bool) → a ≡ is_same_home (own_home was p) (own_home now p) → b ≡ is_same_lease (own_lease was p) (own_lease now p) → not (a && b) ≡ true
        → (a ≡ false) ⊎ (b ≡ false)
    apart false b home lease hit = inl refl
    apart true false home lease hit = inr refl
    apart true true home lease hit = absurd (let never : false ≡ true = hit in cc)

    pub changed-each : Contains (changed was now) p ↔ ((own_home was p ≢ own_home now p) ⊎ (own_lease was p ≢ own_lease now p))
    changed-each = (
      λ here. by (is_changed was now p) (tested here),
      λ parts. listed (elim parts [
        | inl home ↦ differs was now p (λ h l. home h)
        | inr lease ↦ differs was now p (λ h l. lease l)
      ]),
    ) where
      by : (b : Bool) → is_changed was now p ≡ true → (own_home was p ≢ own_home now p) ⊎ (own_lease was p ≢ own_lease now p)
      by b hit = elim (apart _ _ refl refl hit) [
        | inl other ↦ inl (λ same. clash-home same other)
        | inr other ↦ inr (λ same. clash-lease same other)
      ] where
        clash-home : own_home was p ≡ own_home now p → is_same_home (own_home was p) (own_home now p) ≡ false → ⊥
        clash-home same other = (let both : true ≡ false = sym (ap (is_same_home (own_home was p)) (sym same) ∙ home-own (own_home was p)) ∙ other in cc)

        clash-lease : own_lease was p ≡ own_lease now p → is_same_lease (own_lease was p) (own_lease now p) ≡ false → ⊥
        clash-lease same other = (let both : true ≡ false = sym (ap (is_same_lease (own_lease was p)) (sym same) ∙ lease-own (own_lease was p)) ∙ other in cc)

    pub others-stay : ¬ Contains (changed was now) p → (own_home was p ≡ own_home now p) × (own_lease was p ≡ own_lease now p)
    others-stay none = elim (cases_Bool (is_changed was now p)) [
      | inl hit ↦ absurd (none (listed hit))
      | inr miss ↦ stayed was now p miss
    ]
