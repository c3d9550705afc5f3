-- Pairs of elements in lists that are appended, filtered and extended.
use Rattle.std.proofs.Common.{[], ◌≡◌, ◌≢◌, inl, inr, Bool, true, false, List, ◌∷◌, ◌++◌, map, filter, sym, ap, ◌∙◌, subst, arith}
use Rattle.std.specs.List.{All, AllPairs, Contains}
use Rattle.std.proofs.lemmas.List.Elements.{All-nil, All-cons, All-head, All-tail, All-append, All-push, All-weaker, All-map, All-filter, All-contains, Contains-append_left, Contains-append_right}
use Rattle.std.proofs.lemmas.List.Kept.{AllPairs-cons, AllPairs-filter}
use Rattle.lrc_rules.proofs.MemberLemmas.{All-members, filter-member, Contains-cases, not-Contains-nil, AllPairs-head, AllPairs-tail}
use Rattle.lrc_rules.proofs.SeatingLists.{All-unmap, pairs-map, pairs-unmap, pairs-push}

-- what holds for appended lists holds for each
pub All-left : {X : Type 0} (P : X → Type 0) (xs ys : List X) → All P (xs ++ ys) → All P xs
All-left P xs ys all = All-members P xs (λ x here. All-contains P (xs ++ ys) x all (Contains-append_left xs ys x here))

pub All-right : {X : Type 0} (P : X → Type 0) (xs ys : List X) → All P (xs ++ ys) → All P ys
All-right P xs ys all = All-members P ys (λ y here. All-contains P (xs ++ ys) y all (Contains-append_right xs ys y here))

module _ {X : Type 0} (R : X → X → Type 0) where
  -- each element of the first list with each of the second
  abbrev pub Across : List X → List X → Type 0
  Across xs ys = All (λ x. All (R x) ys) xs

  pub pairs-join : (xs ys : List X) → AllPairs R xs → AllPairs R ys → Across xs ys → AllPairs R (xs ++ ys)
  pairs-join [] ys left right across = right
  pairs-join (x ∷ xs) ys left right across =
      AllPairs-cons R x (xs ++ ys) (All-append (R x) xs ys (AllPairs-head R x xs left) (All-head (λ x. All (R x) ys) x xs across))
      (pairs-join xs ys (AllPairs-tail R x xs left) right (All-tail (λ x. All (R x) ys) x xs across))

  pub pairs-left : (xs ys : List X) → AllPairs R (xs ++ ys) → AllPairs R xs
  pairs-left [] ys pairs = λ i j d below within. absurd (omega arith)
  pairs-left (x ∷ xs) ys pairs = AllPairs-cons R x xs (All-left (R x) xs ys (AllPairs-head R x (xs ++ ys) pairs)) (pairs-left xs ys (AllPairs-tail R x (xs ++ ys) pairs))

  pub pairs-right : (xs ys : List X) → AllPairs R (xs ++ ys) → AllPairs R ys
  pairs-right [] ys pairs = pairs
  pairs-right (x ∷ xs) ys pairs = pairs-right xs ys (AllPairs-tail R x (xs ++ ys) pairs)

  pub pairs-across : (xs ys : List X) → AllPairs R (xs ++ ys) → Across xs ys
  pairs-across [] ys pairs = All-nil (λ x. All (R x) ys)
  pairs-across (x ∷ xs) ys pairs =
      All-cons (λ x. All (R x) ys) x xs (All-right (R x) xs ys (AllPairs-head R x (xs ++ ys) pairs)) (pairs-across xs ys (AllPairs-tail R x (xs ++ ys) pairs))

  -- two different members, if the relation is symmetric
  pub pairs-members : ((x y : X) → R x y → R y x) → (xs : List X) (x y : X) → AllPairs R xs → Contains xs x → Contains xs y → x ≢ y → R x y
  pairs-members turn [] x y pairs here there other = absurd (not-Contains-nil x here)
  pairs-members turn (z ∷ zs) x y pairs here there other = elim (Contains-cases z x zs here) [
    | inl first ↦ elim (Contains-cases z y zs there) [
      | inl same ↦ absurd (other (sym first ∙ same))
      | inr later ↦ subst (λ w. R w y) first (All-contains (R z) zs y (AllPairs-head R z zs pairs) later)
    ]
    | inr more ↦ elim (Contains-cases z y zs there) [
      | inl same ↦ turn y x (subst (λ w. R w x) same (All-contains (R z) zs x (AllPairs-head R z zs pairs) more))
      | inr later ↦ pairs-members turn zs x y (AllPairs-tail R z zs pairs) more later other
    ]
  ]

  -- one more element between two lists
  pub pairs-insert : ((x y : X) → R x y → R y x) → (xs zs : List X) (y : X) → AllPairs R (xs ++ zs) → All (λ x. R x y) (xs ++ zs) → AllPairs R ((xs ++ y ∷ []) ++ zs)
  pairs-insert turn xs zs y pairs all =
      pairs-join (xs ++ y ∷ []) zs (pairs-push R xs y (pairs-left xs zs pairs) (All-left (λ x. R x y) xs zs all)) (pairs-right xs zs pairs)
      (All-push (λ x. All (R x) zs) xs y (pairs-across xs zs pairs) (All-weaker (λ x. R x y) (R y) (λ x r. turn x y r) zs (All-right (λ x. R x y) xs zs all)))

-- two lists, the second one mapped, both filtered
module _ {X Y : Type 0} (f : Y → X) (p : X → Bool) (q : Y → Bool) (xs : List X) (ys : List Y) where
  abbrev pub kept_both : List X
  kept_both = filter p xs ++ map f (filter q ys)

  pub All-kept : (P : X → Type 0) → All P (xs ++ map f ys) → All P kept_both
  All-kept P all =
      All-append P (filter p xs) (map f (filter q ys)) (All-filter p P xs (All-left P xs (map f ys) all))
      (All-map P f (filter q ys) (All-filter q (λ y. P (f y)) ys (All-unmap P f ys (All-right P xs (map f ys) all))))

  module _ (R : X → X → Type 0) (pairs : AllPairs R (xs ++ map f ys)) where
    kept-behind : AllPairs (λ a b. R (f a) (f b)) ys
    kept-behind = pairs-unmap R f ys (pairs-right R xs (map f ys) pairs)

    pub pairs-kept : AllPairs R kept_both
    pairs-kept =
        pairs-join R (filter p xs) (map f (filter q ys)) (AllPairs-filter R p xs (pairs-left R xs (map f ys) pairs))
        (pairs-map R f (filter q ys) (AllPairs-filter (λ a b. R (f a) (f b)) q ys kept-behind))
        (All-filter p (λ x. All (R x) (map f (filter q ys))) xs
        (All-weaker (λ x. All (R x) (map f ys)) (λ x. All (R x) (map f (filter q ys)))
        (λ x all. All-map (R x) f (filter q ys) (All-filter q (λ y. R x (f y)) ys (All-unmap (R x) f ys all))) xs (pairs-across R xs (map f ys) pairs)))

    -- each kept element is related to one that was removed
    pub beside-left_out : ((x y : X) → R x y → R y x) → (y : Y) → Contains ys y → q y ≡ false → All (λ x. R x (f y)) kept_both
    beside-left_out turn y here out =
        All-append (λ x. R x (f y)) (filter p xs) (map f (filter q ys))
        (All-filter p (λ x. R x (f y)) xs (All-weaker (λ x. All (R x) (map f ys)) (λ x. R x (f y)) (λ x all. All-contains (λ z. R x (f z)) ys y (All-unmap (R x) f ys all) here) xs (pairs-across R xs (map f ys) pairs)))
        (All-map (λ x. R x (f y)) f (filter q ys) (All-members (λ z. R (f z) (f y)) (filter q ys) (λ z among.
        let m = filter-member q ys z among in
        pairs-members (λ a b. R (f a) (f b)) (λ a b r. turn (f a) (f b) r) ys z y kept-behind m.0 here (λ same. (let both : true ≡ false = sym m.1 ∙ ap q same ∙ out in cc)))))
