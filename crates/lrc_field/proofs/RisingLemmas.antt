-- Sets by their fragments in rising order, and parts of sets.
use Rattle.std.proofs.Common.{◌≡◌, ℕ, zero, suc, ◌+◌, ◌<◌, ◌≤◌, ◌⊎◌, Bool, true, false, cond, ◌||◌, eqb, IsTrue, List, [], ◌∷◌, count_by, refl, sym, ap, ◌∙◌, inl, inr, arith, eq-eqb}
use Rattle.std.specs.Bool.{IsFalse}
use Rattle.std.specs.List.{list_any}
use Rattle.std.proofs.lemmas.List.Sums.{sum_by-cons}
use Rattle.std.proofs.lemmas.Bool.{cases_Bool, cases_eq, cases_lt, or_cases, or_left, or_right, eqb-true}
use Rattle.lrc_code.specs.declared.codes.Code.{Code}
use Rattle.lrc_code.specs.declared.codes.Class.TheVariants.{A, B, G}
use Rattle.lrc_code.specs.Codes.{fragment_count}
use Rattle.lrc_code.specs.Losses.{FragmentSet, size_of, joined}
use Rattle.lrc_code.proofs.LossesLemmas.{size_of-classes}
use Rattle.lrc_field.specs.Recipes.{ComesFirst}
use Rattle.lrc_field.proofs.MemberLemmas.{only, only_one}
use Rattle.lrc_field.proofs.LeftOutLemmas.{losses-one_more}
use Rattle.lrc_field.proofs.DeterminedLemmas.{size_of-within}

-- ---- the order

-- sets that are alike below a fragment, each the first of both, are alike at it
module _ (code : Code) (s t : FragmentSet) (before : ComesFirst code s t) (after : ComesFirst code t s) where
  alike_at : (g : ℕ) → g < fragment_count code → ((h : ℕ) → h < g → s h ≡ t h) → s g ≡ t g
  alike_at g few below = elim (cases_Bool (s g)) [
    | inl in_s ↦ elim (cases_Bool (t g)) [
      | inl in_t ↦ in_s ∙ sym in_t
      | inr not_t ↦ let d = after g few in_s not_t in absurd (let e : true ≡ false = sym d.2 ∙ (sym (below d.0 d.1) ∙ d.3) in cc)
    ]
    | inr not_s ↦ elim (cases_Bool (t g)) [
      | inr not_t ↦ not_s ∙ sym not_t
      | inl in_t ↦ let d = before g few in_t not_s in absurd (let e : true ≡ false = sym d.2 ∙ (below d.0 d.1 ∙ d.3) in cc)
    ]
  ]

  alike_below : (n : ℕ) → n ≤ fragment_count code → (g : ℕ) → g < n → s g ≡ t g
  alike_below zero few g low = absurd (omega (arith, low))
  alike_below (suc n) few g low = elim (cases_eq g n) [
    | inr lower ↦ alike_below n (omega (arith, few)) g (omega (arith, low, lower))
    | inl last ↦ alike_at g (omega (arith, few, last)) (λ h under. alike_below n (omega (arith, few)) h (omega (arith, under, last)))
  ]

-- two sets that are each the first of both have the same fragments
pub both_first : (code : Code) (s t : FragmentSet) → ComesFirst code s t → ComesFirst code t s → (g : ℕ) → g < fragment_count code → s g ≡ t g
both_first code s t before after g few = alike_below code s t before after (fragment_count code) (omega arith) g few

-- the same fragments are each first
pub alike_first : (code : Code) (s t : FragmentSet) → ((g : ℕ) → g < fragment_count code → s g ≡ t g) → ComesFirst code s t × ComesFirst code t s
alike_first code s t same = (
  λ g few in_t not_s. absurd (let e : true ≡ false = sym in_t ∙ (sym (same g few) ∙ not_s) in cc),
  λ g few in_s not_t. absurd (let e : true ≡ false = sym in_s ∙ (same g few ∙ not_t) in cc),
)

-- the lowest number below which two sets differ
record FirstDifference (s t : FragmentSet) : Type 0 where
  pub g : ℕ
  pub either : (IsTrue (s g) × IsFalse (t g)) ⊎ (IsTrue (t g) × IsFalse (s g))
  pub below : (h : ℕ) → h < g → s h ≡ t h

one_more : (s t : FragmentSet) (n : ℕ) → ((h : ℕ) → h < n → s h ≡ t h) → s n ≡ t n → (h : ℕ) → h < suc n → s h ≡ t h
one_more s t n same last h low = elim (cases_eq h n) [
  | inl here ↦ ap s here ∙ (last ∙ ap t (sym here))
  | inr lower ↦ same h (omega (arith, low, lower))
]

look_below : (s t : FragmentSet) (n : ℕ) → ((h : ℕ) → h < n → s h ≡ t h) ⊎ FirstDifference s t
look_below s t zero = inl (λ h low. absurd (omega (arith, low)))
look_below s t (suc n) = elim (look_below s t n) [
  | inr found ↦ inr found
  | inl same ↦ elim (cases_Bool (s n)) [
    | inl in_s ↦ elim (cases_Bool (t n)) [
      | inl in_t ↦ inl (one_more s t n same (in_s ∙ sym in_t))
      | inr not_t ↦ inr (record { g = n; either = inl (in_s, not_t); below = same })
    ]
    | inr not_s ↦ elim (cases_Bool (t n)) [
      | inr not_t ↦ inl (one_more s t n same (not_s ∙ sym not_t))
      | inl in_t ↦ inr (record { g = n; either = inr (in_t, not_s); below = same })
    ]
  ]
]

first_by : (code : Code) (s t : FragmentSet) (g : ℕ) → IsTrue (s g) → IsFalse (t g) → ((h : ℕ) → h < g → s h ≡ t h) → ComesFirst code s t
first_by code s t g in_s not_t below k few in_t not_s = elim (cases_lt g k) [
  | inl above ↦ (g, above, in_s, not_t)
  | inr low ↦ elim (cases_eq k g) [
    | inl here ↦ absurd (let e : true ≡ false = sym in_s ∙ (ap s (sym here) ∙ not_s) in cc)
    | inr lower ↦ absurd (let e : true ≡ false = sym in_t ∙ (sym (below k (omega (arith, low, lower))) ∙ not_s) in cc)
  ]
]

-- of two sets one is the first of both
pub one_first : (code : Code) (s t : FragmentSet) → ComesFirst code s t ⊎ ComesFirst code t s
one_first code s t = elim (look_below s t (fragment_count code)) [
  | inl same ↦ inl (alike_first code s t same).0
  | inr found ↦ elim found.either [
    | inl is ↦ inl (first_by code s t found.g is.0 is.1 found.below)
    | inr is ↦ inr (first_by code t s found.g is.0 is.1 (λ h low. sym (found.below h low)))
  ]
]

-- ---- parts of sets

-- a set and one more fragment has one fragment more
pub size_of-one_more : (code : Code) (s : FragmentSet) (g : ℕ) → g < fragment_count code → s g ≡ false → size_of code (joined s (only g)) ≡ size_of code s + 1
size_of-one_more code s g few out =
    omega (arith, size_of-classes code (joined s (only g)), size_of-classes code s, losses-one_more code s g out A, losses-one_more code s g out B, losses-one_more code s g out G, only_one code g few)

-- a part that is as large as the set is all of it
pub whole_part : (code : Code) (s t : FragmentSet) → ((g : ℕ) → g < fragment_count code → s g ≡ true → t g ≡ true) → size_of code t ≤ size_of code s → (g : ℕ) → g < fragment_count code → t g ≡ true → s g ≡ true
whole_part code s t part large g few hit = elim (cases_Bool (s g)) [
  | inl is ↦ is
  | inr out ↦
      let more = size_of-within code t (joined s (only g)) (λ h low either. elim (or_cases (s h) (eqb h g) either) [
        | inl in_s ↦ part h low in_s
        | inr here ↦ ap t (eqb-true h g here) ∙ hit
      ]) in
      let one = size_of-one_more code s g few out in
      absurd (omega (arith, more, one, large))
]

-- ---- numbers of a list that pass a test

pub record Listed_one (t : ℕ → Bool) (xs : List ℕ) : Type 0 where
  pub h : ℕ
  pub listed : list_any (eqb h) xs ≡ true
  pub hit : t h ≡ true

pub some_listed : (t : ℕ → Bool) (xs : List ℕ) → list_any t xs ≡ true → Listed_one t xs
some_listed t [] some = absurd (let e : false ≡ true = some in cc)
some_listed t (x ∷ xs) some = elim (or_cases (t x) (list_any t xs) some) [
  | inl here ↦ record { h = x; listed = or_left (eqb x x) (list_any (eqb x) xs) (eq-eqb x x refl); hit = here }
  | inr later ↦ let k = some_listed t xs later in record { h = k.h; listed = or_right (eqb k.h x) (list_any (eqb k.h) xs) k.listed; hit = k.hit }
]

pub none_listed : (t : ℕ → Bool) (xs : List ℕ) → list_any t xs ≡ false → (g : ℕ) → list_any (eqb g) xs ≡ true → t g ≡ false
none_listed t [] none g has = absurd (let e : false ≡ true = has in cc)
none_listed t (x ∷ xs) none g has =
    elim (cases_Bool (t x)) [
      | inl hit ↦ absurd (let e : (true || list_any t xs) ≡ false = rw hit at none in cc)
      | inr miss ↦
          let rest : list_any t xs ≡ false = rw miss at none in
          elim (or_cases (eqb g x) (list_any (eqb g) xs) has) [
            | inl here ↦ ap t (eqb-true g x here) ∙ miss
            | inr later ↦ none_listed t xs rest g later
          ]
    ]

-- what is counted in a list is in it
pub counted_listed : (t : ℕ → Bool) (xs : List ℕ) → 0 < count_by t xs → list_any t xs ≡ true
counted_listed t [] some = absurd (let e : 0 < 0 = some in omega (arith, e))
counted_listed t (x ∷ xs) some = elim (cases_Bool (t x)) [
  | inl hit ↦ or_left (t x) (list_any t xs) hit
  | inr miss ↦
      let none : cond {A = ℕ} (t x) 1 0 ≡ 0 = rw miss refl in
      let rest : 0 < count_by t xs = omega (arith, sum_by-cons (λ f. cond (t f) 1 0) x xs, none, some) in
      or_right (t x) (list_any t xs) (counted_listed t xs rest)
]
