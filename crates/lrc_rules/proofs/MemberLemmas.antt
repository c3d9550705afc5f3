-- Members of lists, and what filters, searches and tests say about them.
use Rattle.std.proofs.Common.{[], ◌≡◌, zero, suc, ℕ, Bool, true, false, cond, List, ◌∷◌, map, filter, find, Some, arith, refl, ap, subst, inl, inr, ◌⊎◌}
use Rattle.std.specs.List.{All, AllPairs, Contains, list_any, count_by}
use Rattle.std.proofs.lemmas.Bool.{cases_Bool, or_parts}
use Rattle.std.proofs.lemmas.Option.{same_Some}
use Rattle.std.proofs.lemmas.List.Elements.{All-nil, All-cons, All-head, All-tail, All-weaker, All-contains_itself}
use Rattle.std.proofs.lemmas.List.Sums.{sum_by-cons}

no-one : (b : Bool) → ◌≡◌ {A = ℕ} (cond b 1 0) 0 → b ≡ false
no-one true e = absurd (omega (arith, e))
no-one false e = refl

module _ {X : Type 0} where
  pub Contains-here : (x : X) (xs : List X) → Contains (x ∷ xs) x
  Contains-here x xs = (0, omega arith, refl)

  pub Contains-later : (x y : X) (xs : List X) → Contains xs y → Contains (x ∷ xs) y
  Contains-later x y xs h = (suc h.0, omega (arith, h.1), h.2)

  pub not-Contains-nil : (x : X) → Contains [] x → ⊥
  not-Contains-nil x h = absurd (omega (arith, h.1))

  pub no-member : (xs : List X) → ((x : X) → Contains xs x → ⊥) → xs ≡ []
  no-member [] none = refl
  no-member (x ∷ xs) none = absurd (none x (Contains-here x xs))

  -- what holds for each member holds for all
  pub All-members : (P : X → Type 0) (xs : List X) → ((x : X) → Contains xs x → P x) → All P xs
  All-members P xs h = All-weaker (Contains xs) P h xs (All-contains_itself xs)

  -- a member is the first element or a later one
  pub Contains-cases : (x y : X) (xs : List X) → Contains (x ∷ xs) y → (x ≡ y) ⊎ Contains xs y
  Contains-cases x y xs (zero, within, e) = inl e
  Contains-cases x y xs (suc k, within, e) = inr (k, omega (arith, within), e)

  pub filter-member : (test : X → Bool) (xs : List X) (x : X) → Contains (filter test xs) x → Contains xs x × (test x ≡ true)
  filter-member test [] x h = absurd (not-Contains-nil x h)
  filter-member test (y ∷ ys) x h = elim (cases_Bool (test y)) [
    | inl hit ↦ elim (Contains-cases y x (filter test ys) (rw hit at h)) [
      | inl same ↦ (subst (Contains (y ∷ ys)) same (Contains-here y ys), subst (λ z. test z ≡ true) same hit)
      | inr more ↦ let m = filter-member test ys x more in (Contains-later y x ys m.0, m.1)
    ]
    | inr miss ↦ let m = filter-member test ys x (rw miss at h) in (Contains-later y x ys m.0, m.1)
  ]

  pub member-filter : (test : X → Bool) (xs : List X) (x : X) → Contains xs x → test x ≡ true → Contains (filter test xs) x
  member-filter test [] x h pass = absurd (not-Contains-nil x h)
  member-filter test (y ∷ ys) x h pass = elim (Contains-cases y x ys h) [
    | inl same ↦ let hit : test y ≡ true = rw same pass in rw hit (subst (Contains (y ∷ filter test ys)) same (Contains-here y (filter test ys)))
    | inr more ↦ elim (cases_Bool (test y)) [
      | inl hit ↦ rw hit (Contains-later y x (filter test ys) (member-filter test ys x more pass))
      | inr miss ↦ rw miss (member-filter test ys x more pass)
    ]
  ]

  pub find-member : (test : X → Bool) (xs : List X) (x : X) → find test xs ≡ Some x → Contains xs x × (test x ≡ true)
  find-member test [] x e = absurd (cc)
  find-member test (y ∷ ys) x e = elim (cases_Bool (test y)) [
    | inl hit ↦
        let f : Some y ≡ Some x = rw hit at e in
        let same = same_Some y x f in
        (subst (Contains (y ∷ ys)) same (Contains-here y ys), subst (λ z. test z ≡ true) same hit)
    | inr miss ↦
        let f : find test ys ≡ Some x = rw miss at e in
        let m = find-member test ys x f in (Contains-later y x ys m.0, m.1)
  ]

  -- a test that some member passes, and a test that none passes
  pub list_any-member : (test : X → Bool) (xs : List X) (x : X) → Contains xs x → test x ≡ true → list_any test xs ≡ true
  list_any-member test [] x h pass = absurd (not-Contains-nil x h)
  list_any-member test (y ∷ ys) x h pass = elim (Contains-cases y x ys h) [
    | inl same ↦ let hit : test y ≡ true = rw same pass in rw hit refl
    | inr more ↦ elim (cases_Bool (test y)) [
      | inl hit ↦ rw hit refl
      | inr miss ↦ rw miss (list_any-member test ys x more pass)
    ]
  ]

  pub member-list_any : (test : X → Bool) (xs : List X) → list_any test xs ≡ true → (x : X) × Contains xs x × (test x ≡ true)
  member-list_any test [] e = absurd (cc)
  member-list_any test (y ∷ ys) e = elim (cases_Bool (test y)) [
    | inl hit ↦ (y, Contains-here y ys, hit)
    | inr miss ↦ let m = member-list_any test ys (rw miss at e) in (m.0, Contains-later y m.0 ys m.1, m.2)
  ]

  pub All-list_any : (test : X → Bool) (xs : List X) → list_any test xs ≡ false → All (λ x. test x ≡ false) xs
  All-list_any test [] e = All-nil (λ x. test x ≡ false)
  All-list_any test (x ∷ xs) e =
      let parts = or_parts (test x) (list_any test xs) e in All-cons (λ y. test y ≡ false) x xs parts.0 (All-list_any test xs parts.1)

  pub list_any-All : (test : X → Bool) (xs : List X) → All (λ x. test x ≡ false) xs → list_any test xs ≡ false
  list_any-All test [] all = refl
  list_any-All test (x ∷ xs) all = rw (All-head (λ y. test y ≡ false) x xs all) (list_any-All test xs (All-tail (λ y. test y ≡ false) x xs all))

  -- the count is 0 exactly if no member passes
  pub count-none : (test : X → Bool) (xs : List X) → count_by test xs ≡ 0 → All (λ x. test x ≡ false) xs
  count-none test [] none = All-nil (λ x. test x ≡ false)
  count-none test (x ∷ xs) none =
      let parts = sum_by-cons (λ y. cond (test y) 1 0) x xs in
      All-cons (λ y. test y ≡ false) x xs (no-one (test x) (omega (arith, parts, none))) (count-none test xs (omega (arith, parts, none)))

  pub none-count : (test : X → Bool) (xs : List X) → All (λ x. test x ≡ false) xs → count_by test xs ≡ 0
  none-count test [] all = refl
  none-count test (x ∷ xs) all =
      let parts = sum_by-cons (λ y. cond (test y) 1 0) x xs in
      let own : ◌≡◌ {A = ℕ} (cond (test x) 1 0) 0 = rw (All-head (λ y. test y ≡ false) x xs all) refl in
      let rest = none-count test xs (All-tail (λ y. test y ≡ false) x xs all) in omega (arith, parts, own, rest)

  -- pairs: the first element with each later one, and the later ones among themselves
  pub AllPairs-head : (R : X → X → Type 0) (x : X) (xs : List X) → AllPairs R (x ∷ xs) → All (R x) xs
  AllPairs-head R x xs h k d within = h 0 (suc k) d (omega arith) (omega arith)

  pub AllPairs-tail : (R : X → X → Type 0) (x : X) (xs : List X) → AllPairs R (x ∷ xs) → AllPairs R xs
  AllPairs-tail R x xs h i j d below within = h (suc i) (suc j) d (omega arith) (omega arith)

pub map-member : {X Y : Type 0} (f : X → Y) (xs : List X) (x : X) → Contains xs x → Contains (map f xs) (f x)
map-member f [] x h = absurd (not-Contains-nil x h)
map-member f (y ∷ ys) x h = elim (Contains-cases y x ys h) [
  | inl same ↦ subst (λ z. Contains (f y ∷ map f ys) z) (ap f same) (Contains-here (f y) (map f ys))
  | inr more ↦ Contains-later (f y) (f x) (map f ys) (map-member f ys x more)
]
