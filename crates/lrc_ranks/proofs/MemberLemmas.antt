-- The members of a set of stripes, in rising order.
use Rattle.std.proofs.Common.{◌≡◌, ℕ, zero, suc, ◌+◌, ◌-◌, ◌<◌, ◌≤◌, inl, inr, Bool, true, false, List, [], ◌∷◌, map, arith, refl, sym, ap, ◌∙◌, subst}
use Rattle.std.specs.List.{All, AllPairs, Contains, range_with_len}
use Rattle.std.proofs.Math.Nat.{mod-eq_of_lt}
use Rattle.std.proofs.lemmas.Bool.{cases_lt}
use Rattle.std.proofs.lemmas.List.Elements.{All-nil, All-cons, All-weaker, All-contains}
use Rattle.std.proofs.lemmas.List.Kept.{AllPairs-cons, AllPairs-filter}
use Rattle.lrc_code.specs.declared.numbers.StripeNo.{StripeNo}
use Rattle.lrc_code.proofs.NumbersLemmas.{equal_stripes}
use Rattle.lrc_ranks.specs.Sets.{IsNext, stripes_from, members_from}
use Rattle.lrc_terms.specs.Stripes.{stripe_at}
use Rattle.lrc_terms.proofs.ListLemmas.{Contains-here, Contains-later, Contains-filter, Contains-unfilter}

abbrev pub IsLower : StripeNo → StripeNo → Type 0
IsLower r s = r.value < s.value

-- ---- all stripes from a number on

-- a stripe's own number is the first of those from it on
pub stripes_from-own : (s : StripeNo) → stripes_from s.value ≡ s ∷ stripes_from (s.value + 1)
unfolding stripes_from
stripes_from-own s =
    let left : 4096 - s.value ≡ suc (4096 - (s.value + 1)) = let low = s.in_range in omega (arith, low) in
    let own : stripe_at s.value ≡ s = equal_stripes (stripe_at s.value) s (mod-eq_of_lt s.in_range) in
    ap (λ n. map stripe_at (range_with_len s.value n)) left ∙ ap (λ (x : StripeNo). x ∷ map stripe_at (range_with_len (s.value + 1) (4096 - (s.value + 1)))) own

pub stripes_from-past : (from : ℕ) → 4096 ≤ from → stripes_from from ≡ []
unfolding stripes_from
stripes_from-past from past =
    let none : 4096 - from ≡ 0 = omega (arith, past) in
    ap (λ n. map stripe_at (range_with_len from n)) none

-- induction from the last stripe down to a number
from_all : (P : List StripeNo → ℕ → Type 0) → ((from : ℕ) → P [] from) → ((s : StripeNo) (xs : List StripeNo) → P xs (s.value + 1) → P (s ∷ xs) s.value)
    → (d from : ℕ) → 4096 ≤ from + d → P (stripes_from from) from
from_all P none more zero from past = subst (λ xs. P xs from) (sym (stripes_from-past from (omega (arith, past)))) (none from)
from_all P none more (suc d) from past = elim (cases_lt from 4096) [
  | inl low ↦
      let s : StripeNo = record { value = from; in_range = low } in
      subst (λ xs. P xs from) (sym (stripes_from-own s)) (more s (stripes_from (from + 1)) (from_all P none more d (from + 1) (omega (arith, past))))
  | inr high ↦ subst (λ xs. P xs from) (sym (stripes_from-past from high)) (none from)
]

stripes_from-above : (from : ℕ) → All (λ s. from ≤ s.value) (stripes_from from)
stripes_from-above from =
    from_all (λ xs n. All (λ s. n ≤ s.value) xs) (λ n. All-nil (λ s. n ≤ s.value))
    (λ s xs above. All-cons (λ t. s.value ≤ t.value) s xs (omega arith)
    (All-weaker (λ t. s.value + 1 ≤ t.value) (λ t. s.value ≤ t.value) (λ t more. omega (arith, more)) xs above))
    4096 from (omega arith)

-- a list of rising stripes, all from a number on
record IsRisingFrom (xs : List StripeNo) (from : ℕ) : Type 0 where
  above : All (λ s. from ≤ s.value) xs
  rising : AllPairs IsLower xs

stripes_from-rising : (from : ℕ) → IsRisingFrom (stripes_from from) from
stripes_from-rising from =
    from_all IsRisingFrom (λ n. record { above = All-nil (λ s. n ≤ s.value); rising = λ i j d below within. absurd (omega (arith, within)) })
    (λ s xs rest. record {
      above = All-cons (λ t. s.value ≤ t.value) s xs (omega arith)
          (All-weaker (λ t. s.value + 1 ≤ t.value) (λ t. s.value ≤ t.value) (λ t more. omega (arith, more)) xs rest.above);
      rising = AllPairs-cons IsLower s xs (All-weaker (λ t. s.value + 1 ≤ t.value) (IsLower s) (λ t more. omega (arith, more)) xs rest.above) rest.rising;
    })
    4096 from (omega arith)

stripes_from-all : (d from : ℕ) (s : StripeNo) → from + d ≡ s.value → Contains (stripes_from from) s
stripes_from-all zero from s same =
    let here : from ≡ s.value = omega (arith, same) in
    subst (λ n. Contains (stripes_from n) s) (sym here) (subst (λ xs. Contains xs s) (sym (stripes_from-own s)) (Contains-here s (stripes_from (s.value + 1))))
stripes_from-all (suc d) from s same =
    let low : from < 4096 = let high = s.in_range in omega (arith, same, high) in
    let t : StripeNo = record { value = from; in_range = low } in
    subst (λ xs. Contains xs s) (sym (stripes_from-own t)) (Contains-later t s (stripes_from (from + 1)) (stripes_from-all d (from + 1) s (omega (arith, same))))

-- ---- the members

module _ (set : StripeNo → Bool) where
  members-own : (s : StripeNo) → set s ≡ true → members_from set s.value ≡ s ∷ members_from set (s.value + 1)
  members-own s has = rw (stripes_from-own s, has) refl

  members-skip : (s : StripeNo) → set s ≡ false → members_from set s.value ≡ members_from set (s.value + 1)
  members-skip s lacks = rw (stripes_from-own s, lacks) refl

  none-by : (d from : ℕ) → 4096 ≤ from + d → ((t : StripeNo) → from ≤ t.value → set t ≡ false) → members_from set from ≡ []
  none-by zero from past none = rw (stripes_from-past from (omega (arith, past))) refl
  none-by (suc d) from past none = elim (cases_lt from 4096) [
    | inl low ↦
        let s : StripeNo = record { value = from; in_range = low } in
        members-skip s (none s (omega arith)) ∙ none-by d (from + 1) (omega (arith, past)) (λ t later. none t (omega (arith, later)))
    | inr high ↦ rw (stripes_from-past from high) refl
  ]

  -- where none is found, none is left
  pub members_from-none : (from : ℕ) → ((t : StripeNo) → from ≤ t.value → set t ≡ false) → members_from set from ≡ []
  members_from-none from none = none-by 4096 from (omega arith) none

  next-by : (d from : ℕ) (s : StripeNo) → from + d ≡ s.value → IsNext set from s → members_from set from ≡ s ∷ members_from set (s.value + 1)
  next-by zero from s same next =
      let here : from ≡ s.value = omega (arith, same) in
      ap (members_from set) here ∙ members-own s next.has
  next-by (suc d) from s same next =
      let low : from < 4096 = let high = s.in_range in omega (arith, same, high) in
      let t : StripeNo = record { value = from; in_range = low } in
      members-skip t (next.first t (omega arith) (omega (arith, same)))
      ∙ next-by d (from + 1) s (omega (arith, same)) (record {
        has = next.has;
        later = omega (arith, same);
        first = λ r later lower. next.first r (omega (arith, later)) lower;
      })

  -- where one is found, it is the first that is left
  pub members_from-next : (from : ℕ) (s : StripeNo) → IsNext set from s → members_from set from ≡ s ∷ members_from set (s.value + 1)
  members_from-next from s next = let later = next.later in next-by (s.value - from) from s (omega (arith, later)) next

  pub members-among : (from : ℕ) (s : StripeNo) → Contains (members_from set from) s → (set s ≡ true) × (from ≤ s.value)
  members-among from s among =
      let (there, has) = Contains-unfilter set (stripes_from from) s among in
      (has, All-contains (λ t. from ≤ t.value) (stripes_from from) s (stripes_from-above from) there)

  pub members-all : (from : ℕ) (s : StripeNo) → set s ≡ true → from ≤ s.value → Contains (members_from set from) s
  members-all from s has later = Contains-filter set (stripes_from from) s has (stripes_from-all (s.value - from) from s (omega (arith, later)))

  pub members-rising : (from : ℕ) → AllPairs IsLower (members_from set from)
  members-rising from = AllPairs-filter IsLower set (stripes_from from) (stripes_from-rising from).rising
