-- All short sublists of a list pass a test, and the members of a list that are in a set.
use Rattle.std.proofs.Common.{◌≡◌, ℕ, zero, suc, ◌+◌, ◌-◌, ◌≤◌, Bool, true, false, cond, not, ◌&&◌, ◌||◌, eqb, List, [], ◌∷◌, length, take, filter, refl, sym, ap, ◌∙◌, inl, inr, arith}
use Rattle.std.specs.List.{list_all, list_any}
use Rattle.std.proofs.lemmas.Bool.{cases_Bool, and_parts, and_from, or_cases, eqb-true}
use Rattle.lrc_field.specs.Weights.{but}

-- the test passes at each sublist with at most so many elements
abbrev pub each : (List ℕ → Bool) → ℕ → List ℕ → Bool
each t k [] = t []
each t zero (x ∷ xs) = t []
each t (suc k) (x ∷ xs) = each t (suc k) xs && each (λ l. t (x ∷ l)) k xs

pub filter-cons : (m : ℕ → Bool) (x : ℕ) (xs : List ℕ) → filter m (x ∷ xs) ≡ cond (m x) (x ∷ filter m xs) (filter m xs)
filter-cons m x xs = refl

pub filter-hit : (m : ℕ → Bool) (x : ℕ) (xs : List ℕ) → m x ≡ true → filter m (x ∷ xs) ≡ x ∷ filter m xs
filter-hit m x xs hit = rw (filter-cons m x xs, hit) refl

pub filter-miss : (m : ℕ → Bool) (x : ℕ) (xs : List ℕ) → m x ≡ false → filter m (x ∷ xs) ≡ filter m xs
filter-miss m x xs miss = rw (filter-cons m x xs, miss) refl

empty_from : (xs : List ℕ) → length xs ≤ 0 → xs ≡ []
empty_from [] h = refl
empty_from (x ∷ xs) h = absurd (omega arith)

-- the test passes at the members of a set, if they are few
pub each_at : (t : List ℕ → Bool) (k : ℕ) (xs : List ℕ) → each t k xs ≡ true → (m : ℕ → Bool) → length (filter m xs) ≤ k → t (filter m xs) ≡ true
each_at t k [] h m few = h
each_at t zero (x ∷ xs) h m few = rw (empty_from (filter m (x ∷ xs)) few) h
each_at t (suc k) (x ∷ xs) h m few =
    let parts = and_parts (each t (suc k) xs) (each (λ l. t (x ∷ l)) k xs) h in
    elim (cases_Bool (m x)) [
      | inl hit ↦ let e : filter m (x ∷ xs) ≡ x ∷ filter m xs = rw (filter-cons m x xs, hit) refl in
          let n : length (x ∷ filter m xs) ≤ suc k = rw e at few in
          rw e (each_at (λ l. t (x ∷ l)) k xs parts.1 m (omega (arith, n)))
      | inr miss ↦ let e : filter m (x ∷ xs) ≡ filter m xs = rw (filter-cons m x xs, miss) refl in
          rw e (each_at t (suc k) xs parts.0 m (rw e at few))
    ]

pub each-suc : (t : List ℕ → Bool) (k x : ℕ) (xs : List ℕ) → each t (suc k) xs ≡ true → each (λ l. t (x ∷ l)) k xs ≡ true → each t (suc k) (x ∷ xs) ≡ true
each-suc t k x xs p q = and_from (each t (suc k) xs) (each (λ l. t (x ∷ l)) k xs) p q

each_none : (t : List ℕ → Bool) (k : ℕ) (xs : List ℕ) → each t k xs ≡ true → t [] ≡ true
each_none t k [] h = h
each_none t zero (x ∷ xs) h = h
each_none t (suc k) (x ∷ xs) h = each_none t (suc k) xs (and_parts (each t (suc k) xs) (each (λ l. t (x ∷ l)) k xs) h).0

-- the test passes at the first few of the members of a set
pub each_take : (t : List ℕ → Bool) (k : ℕ) (xs : List ℕ) → each t k xs ≡ true → (m : ℕ → Bool) (n : ℕ) → n ≤ k → t (take n (filter m xs)) ≡ true
each_take t k xs h m zero few = each_none t k xs h
each_take t k [] h m (suc n) few = h
each_take t zero (x ∷ xs) h m (suc n) few = absurd (omega (arith, few))
each_take t (suc k) (x ∷ xs) h m (suc n) few =
    let parts = and_parts (each t (suc k) xs) (each (λ l. t (x ∷ l)) k xs) h in
    elim (cases_Bool (m x)) [
      | inl hit ↦ let e : filter m (x ∷ xs) ≡ x ∷ filter m xs = rw (filter-cons m x xs, hit) refl in
          rw e (each_take (λ l. t (x ∷ l)) k xs parts.1 m n (omega (arith, few)))
      | inr miss ↦ let e : filter m (x ∷ xs) ≡ filter m xs = rw (filter-cons m x xs, miss) refl in
          rw e (each_take t (suc k) xs parts.0 m (suc n) few)
    ]

-- what is among the first of the members of a set is in the set
pub any_take : (m : ℕ → Bool) (g : ℕ) (xs : List ℕ) (n : ℕ) → list_any (eqb g) (take n (filter m xs)) ≡ true → m g ≡ true
any_take m g xs zero h = absurd (let e : false ≡ true = h in cc)
any_take m g [] (suc n) h = absurd (let e : false ≡ true = h in cc)
any_take m g (x ∷ xs) (suc n) h = elim (cases_Bool (m x)) [
  | inl hit ↦
      let e : filter m (x ∷ xs) ≡ x ∷ filter m xs = rw (filter-cons m x xs, hit) refl in
      let k : (eqb g x || list_any (eqb g) (take n (filter m xs))) ≡ true = rw e at h in
      elim (or_cases (eqb g x) (list_any (eqb g) (take n (filter m xs))) k) [
        | inl here ↦ ap m (eqb-true g x here) ∙ hit
        | inr later ↦ any_take m g xs n later
      ]
  | inr miss ↦
      let e : filter m (x ∷ xs) ≡ filter m xs = rw (filter-cons m x xs, miss) refl in
      any_take m g xs (suc n) (rw e at h)
]

-- no other number is among the members of a set
pub any_filter : (m : ℕ → Bool) (g : ℕ) (xs : List ℕ) → m g ≡ false → list_any (eqb g) (filter m xs) ≡ false
any_filter m g [] out = refl
any_filter m g (x ∷ xs) out = elim (cases_Bool (m x)) [
  | inl hit ↦ elim (cases_Bool (eqb g x)) [
    | inl here ↦ absurd (let e : true ≡ false = sym hit ∙ (ap m (sym (eqb-true g x here)) ∙ out) in cc)
    | inr other ↦ rw (filter-hit m x xs hit, other) (any_filter m g xs out)
  ]
  | inr miss ↦ rw (filter-miss m x xs miss) (any_filter m g xs out)
]

-- what holds of each element holds of one
pub at_listed : (t : ℕ → Bool) (f : ℕ) (xs : List ℕ) → list_all t xs ≡ true → list_any (eqb f) xs ≡ true → t f ≡ true
at_listed t f [] all has = absurd (let e : false ≡ true = has in cc)
at_listed t f (x ∷ xs) all has =
    let p = and_parts (t x) (list_all t xs) all in
    elim (or_cases (eqb f x) (list_any (eqb f) xs) has) [ inl here ↦ ap t (eqb-true f x here) ∙ p.0 | inr later ↦ at_listed t f xs p.1 later ]

-- what holds of each member of a set that is in the list holds of one
pub at_filter : (t m : ℕ → Bool) (f : ℕ) (xs : List ℕ) → list_all t (filter m xs) ≡ true → list_any (eqb f) xs ≡ true → m f ≡ true → t f ≡ true
at_filter t m f [] all has hit = absurd (let e : false ≡ true = has in cc)
at_filter t m f (x ∷ xs) all has hit = elim (or_cases (eqb f x) (list_any (eqb f) xs) has) [
  | inl here ↦
      let at : f ≡ x = eqb-true f x here in
      let lost : m x ≡ true = ap m (sym at) ∙ hit in
      let e : list_all t (x ∷ filter m xs) ≡ true = rw lost at all in
      ap t at ∙ (and_parts (t x) (list_all t (filter m xs)) e).0
  | inr later ↦ elim (cases_Bool (m x)) [
    | inl lost ↦ let e : list_all t (x ∷ filter m xs) ≡ true = rw lost at all in at_filter t m f xs (and_parts (t x) (list_all t (filter m xs)) e).1 later hit
    | inr not_lost ↦ let e : list_all t (filter m xs) ≡ true = rw not_lost at all in at_filter t m f xs e later hit
  ]
]

-- the members of a set without one fragment are the others of its members
pub filter_but : (p q : ℕ → Bool) (x : ℕ) → ((g : ℕ) → p g ≡ (not (eqb g x) && q g)) → (xs : List ℕ) → filter p xs ≡ but x (filter q xs)
filter_but p q x same [] = refl
filter_but p q x same (y ∷ ys) = elim (cases_Bool (q y)) [
  | inl hit ↦ elim (cases_Bool (eqb y x)) [
    | inl here ↦
        let e : p y ≡ false = same y ∙ rw here refl in
        rw (filter-miss p y ys e, filter-hit q y ys hit, filter-miss (λ g. not (eqb g x)) y (filter q ys) (rw here refl)) (filter_but p q x same ys)
    | inr other ↦
        let e : p y ≡ true = same y ∙ rw (other, hit) refl in
        rw (filter-hit p y ys e, filter-hit q y ys hit, filter-hit (λ g. not (eqb g x)) y (filter q ys) (rw other refl)) (ap (λ l. y ∷ l) (filter_but p q x same ys))
  ]
  | inr miss ↦
      let e : p y ≡ false = same y ∙ rw miss (none (not (eqb y x))) in
      rw (filter-miss p y ys e, filter-miss q y ys miss) (filter_but p q x same ys)
] where
  none : (b : Bool) → (b && false) ≡ false
  none true = refl
  none false = refl

-- the losses beyond the first in each local group, and all global losses
abbrev pub excess_by : List ℕ → List ℕ → List ℕ → ℕ
excess_by la lb lg = (length la - 1) + (length lb - 1) + length lg
