-- Lists with the same elements: what tests, counts, searches and orders say of them.
use Rattle.std.proofs.Common.{[], ◌≡◌, ◌≢◌, ◌≤◌, ℕ, inl, inr, Bool, true, false, cond, List, ◌∷◌, ◌++◌, map, filter, flat_map, Option, Some, None, refl, sym, ◌∙◌, subst, arith}
use Rattle.std.specs.Cmp.{IsStrictWeakOrder}
use Rattle.std.specs.List.{AllPairs, Contains, list_any, count_by, sum_by, remove}
use Rattle.std.proofs.lemmas.Bool.{cases_Bool, false_from_ne_true}
use Rattle.std.proofs.lemmas.List.Elements.{All-contains, Contains-append_left, Contains-append_right, Contains-append_cases}
use Rattle.std.proofs.lemmas.List.Sorted.{IsPermutation-remove, IsPermutation-sym, Contains-permutation, sum_by-IsPermutation}
use Rattle.std.proofs.lemmas.List.Sums.{sum_by-cons}
use Rattle.lrc_code.specs.Order.{least, in_order}
use Rattle.lrc_code.proofs.OrderLemmas.{least-none, least-listed, least-none_before, least-only, in_order-permutation}
use Rattle.lrc_rules.specs.Alike.{HaveSame}
use Rattle.lrc_rules.proofs.MemberLemmas.{All-members, AllPairs-head, AllPairs-tail, Contains-here, Contains-later, Contains-cases, not-Contains-nil, no-member, filter-member, member-filter, map-member, list_any-member, member-list_any}
use Rattle.lrc_rules.proofs.TakenLemmas.{member-map}
use Rattle.lrc_rules.proofs.RisingLemmas.{in_order-strict, strict-in_order}

-- each element of the first list is one of the second
abbrev pub IsWithinList : {X : Type 0} → List X → List X → Type 0
IsWithinList {X} xs ys = (x : X) → Contains xs x → Contains ys x

module _ {X : Type 0} where
  pub into : (xs ys : List X) → HaveSame xs ys → IsWithinList xs ys
  into xs ys same x = (same x).0

  pub back : (xs ys : List X) → HaveSame xs ys → IsWithinList ys xs
  back xs ys same x = (same x).1

  same-self : (xs : List X) → HaveSame xs xs
  same-self xs x = (λ here. here, λ here. here)

  -- ---- tests

  any-within : (test : X → Bool) (xs ys : List X) → IsWithinList xs ys → list_any test xs ≡ true → list_any test ys ≡ true
  any-within test xs ys within hit = let m = member-list_any test xs hit in list_any-member test ys m.0 (within m.0 m.1) m.2

  pub same-any : (test : X → Bool) (xs ys : List X) → HaveSame xs ys → list_any test xs ≡ list_any test ys
  same-any test xs ys same = elim (cases_Bool (list_any test xs)) [
    | inl hit ↦ hit ∙ sym (any-within test xs ys (into xs ys same) hit)
    | inr miss ↦ miss ∙ sym (false_from_ne_true (list_any test ys) (λ hit.
        (let both : true ≡ false = sym (any-within test ys xs (back xs ys same) hit) ∙ miss in cc)))
  ]

  -- ---- lists made of lists

  filter-within : (test : X → Bool) (xs ys : List X) → IsWithinList xs ys → IsWithinList (filter test xs) (filter test ys)
  filter-within test xs ys within x here = let m = filter-member test xs x here in member-filter test ys x (within x m.0) m.1

  pub same-filter : (test : X → Bool) (xs ys : List X) → HaveSame xs ys → HaveSame (filter test xs) (filter test ys)
  same-filter test xs ys same x = (filter-within test xs ys (into xs ys same) x, filter-within test ys xs (back xs ys same) x)

  append-within : (xs ys us vs : List X) → IsWithinList xs us → IsWithinList ys vs → IsWithinList (xs ++ ys) (us ++ vs)
  append-within xs ys us vs left right x here = elim (Contains-append_cases xs ys x here) [
    | inl l ↦ Contains-append_left us vs x (left x l)
    | inr r ↦ Contains-append_right us vs x (right x r)
  ]

  pub same-append : (xs ys us vs : List X) → HaveSame xs us → HaveSame ys vs → HaveSame (xs ++ ys) (us ++ vs)
  same-append xs ys us vs left right x = (
    append-within xs ys us vs (into xs us left) (into ys vs right) x,
    append-within us vs xs ys (back xs us left) (back ys vs right) x,
  )

  -- the same more elements at the end
  pub same-more : (xs ys more : List X) → HaveSame xs ys → HaveSame (xs ++ more) (ys ++ more)
  same-more xs ys more same = same-append xs more ys more same (same-self more)

  -- ---- counts

  -- if the first list has nothing twice, and the second has all of it, its sum is at most that of the second
  sum-within : (f : X → ℕ) (xs ys : List X) → AllPairs (λ x y. x ≢ y) xs → IsWithinList xs ys → sum_by f xs ≤ sum_by f ys
  sum-within f [] ys distinct within = omega arith
  sum-within f (x ∷ xs) ys distinct within =
      let at = within x (Contains-here x xs) in
      let rest = remove ys at.0 in
      let moved = IsPermutation-remove ys at.0 x at.1 (sym at.2) in
      let more = sum-within f xs rest (AllPairs-tail (λ x y. x ≢ y) x xs distinct) (λ z here.
      elim (Contains-cases x z rest (Contains-permutation ys (x ∷ rest) z moved (within z (Contains-later x z xs here)))) [
        | inl same ↦ absurd (All-contains (λ y. x ≢ y) xs z (AllPairs-head (λ x y. x ≢ y) x xs distinct) here same)
        | inr later ↦ later
      ]) in
      let sum = sum_by-IsPermutation f ys (x ∷ rest) moved in
      let first = sum_by-cons f x xs in
      let second = sum_by-cons f x rest in
      omega (arith, more, sum, first, second)

  -- as many elements pass a test
  pub same-count : (test : X → Bool) (xs ys : List X) → HaveSame xs ys → AllPairs (λ x y. x ≢ y) xs → AllPairs (λ x y. x ≢ y) ys → count_by test xs ≡ count_by test ys
  same-count test xs ys same distinct distinct' =
      let up = sum-within (λ x. cond (test x) 1 0) xs ys distinct (into xs ys same) in
      let down = sum-within (λ x. cond (test x) 1 0) ys xs distinct' (back xs ys same) in
      omega (arith, up, down)

  -- ---- orders in which nothing ties

  module _ (before : X → X → Bool) (order : IsStrictWeakOrder before) (ties : (a b : X) → before a b ≡ false → before b a ≡ false → a ≡ b)
      (xs ys : List X) (same : HaveSame xs ys) where
    pub same-least : least before xs ≡ least before ys
    same-least = by (least before xs) refl where
      by : (o : Option X) → least before xs ≡ o → least before xs ≡ least before ys
      by None e =
          let empty = (least-none before xs).0 e in
          e ∙ sym ((least-none before ys).1 (no-member ys (λ y here. not-Contains-nil y (subst (λ zs. Contains zs y) empty (back xs ys same y here)))))
      by (Some r) e =
          e ∙ sym (least-only before order r ys (λ a b in_a in_b. ties a b) (into xs ys same r (least-listed before r xs e))
          (All-members (λ y. before y r ≡ false) ys (λ y here.
          All-contains (λ y. before y r ≡ false) xs y (least-none_before before order r xs e) (back xs ys same y here))))

    pub same-in_order : AllPairs (λ x y. x ≢ y) xs → AllPairs (λ x y. x ≢ y) ys → in_order before xs ≡ in_order before ys
    same-in_order distinct distinct' =
        let sorted = in_order before xs in
        let moved = in_order-permutation before xs in
        strict-in_order before order ties ys sorted distinct' (in_order-strict before order ties xs distinct)
        (λ z here. Contains-permutation xs sorted z moved (back xs ys same z here))
        (λ z here. into xs ys same z (Contains-permutation sorted xs z (IsPermutation-sym xs sorted moved) here))

map-within : {X Y : Type 0} (f : X → Y) (xs ys : List X) → IsWithinList xs ys → IsWithinList (map f xs) (map f ys)
map-within f xs ys within y here =
    let m = member-map f xs y here in subst (Contains (map f ys)) m.2 (map-member f ys m.0 (within m.0 m.1))

pub same-map : {X Y : Type 0} (f : X → Y) (xs ys : List X) → HaveSame xs ys → HaveSame (map f xs) (map f ys)
same-map f xs ys same y = (map-within f xs ys (into xs ys same) y, map-within f ys xs (back xs ys same) y)

-- an element of one of the lists that are appended
pub flat-member : {X Y : Type 0} (f : X → List Y) (xs : List X) (y : Y) → Contains (flat_map f xs) y → (x : X) × Contains xs x × Contains (f x) y
flat-member f [] y here = absurd (not-Contains-nil y here)
flat-member f (x ∷ xs) y here = elim (Contains-append_cases (f x) (flat_map f xs) y here) [
  | inl now ↦ (x, Contains-here x xs, now)
  | inr later ↦ let m = flat-member f xs y later in (m.0, Contains-later x m.0 xs m.1, m.2)
]

pub member-flat : {X Y : Type 0} (f : X → List Y) (xs : List X) (x : X) (y : Y) → Contains xs x → Contains (f x) y → Contains (flat_map f xs) y
member-flat f [] x y among here = absurd (not-Contains-nil x among)
member-flat f (z ∷ zs) x y among here = elim (Contains-cases z x zs among) [
  | inl same ↦ Contains-append_left (f z) (flat_map f zs) y (subst (λ u. Contains (f u) y) (sym same) here)
  | inr later ↦ Contains-append_right (f z) (flat_map f zs) y (member-flat f zs x y later here)
]

flat-within : {X Y : Type 0} (f : X → List Y) (xs ys : List X) → IsWithinList xs ys → IsWithinList (flat_map f xs) (flat_map f ys)
flat-within f xs ys within y here = let m = flat-member f xs y here in member-flat f ys m.0 y (within m.0 m.1) m.2

pub same-flat_map : {X Y : Type 0} (f : X → List Y) (xs ys : List X) → HaveSame xs ys → HaveSame (flat_map f xs) (flat_map f ys)
same-flat_map f xs ys same y = (flat-within f xs ys (into xs ys same) y, flat-within f ys xs (back xs ys same) y)
