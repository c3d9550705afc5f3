-- Lists with mapped elements, and with one more element.
use Rattle.std.proofs.Common.{[], get_or, List, ◌∷◌, ◌++◌, map, arith}
use Rattle.std.specs.List.{All, AllPairs}
use Rattle.std.proofs.lemmas.List.Elements.{All-nil, All-cons, All-head, All-tail, All-map}
use Rattle.std.proofs.lemmas.List.Quantifiers.{all_pairs_push}
use Rattle.std.proofs.lemmas.List.Kept.{AllPairs-cons}
use Rattle.lrc_rules.proofs.MemberLemmas.{AllPairs-head, AllPairs-tail}

pub All-unmap : {X Y : Type 0} (P : Y → Type 0) (f : X → Y) (xs : List X) → All P (map f xs) → All (λ x. P (f x)) xs
All-unmap P f [] all = All-nil (λ x. P (f x))
All-unmap P f (x ∷ xs) all = All-cons (λ y. P (f y)) x xs (All-head P (f x) (map f xs) all) (All-unmap P f xs (All-tail P (f x) (map f xs) all))

module _ {X Y : Type 0} (R : Y → Y → Type 0) (f : X → Y) where
  pub pairs-map : (xs : List X) → AllPairs (λ x y. R (f x) (f y)) xs → AllPairs R (map f xs)
  pairs-map [] pairs = λ i j d below within. absurd (omega arith)
  pairs-map (x ∷ xs) pairs =
      AllPairs-cons R (f x) (map f xs) (All-map (R (f x)) f xs (AllPairs-head (λ x y. R (f x) (f y)) x xs pairs))
      (pairs-map xs (AllPairs-tail (λ x y. R (f x) (f y)) x xs pairs))

  pub pairs-unmap : (xs : List X) → AllPairs R (map f xs) → AllPairs (λ x y. R (f x) (f y)) xs
  pairs-unmap [] pairs = λ i j d below within. absurd (omega arith)
  pairs-unmap (x ∷ xs) pairs =
      AllPairs-cons (λ x y. R (f x) (f y)) x xs (All-unmap (R (f x)) f xs (AllPairs-head R (f x) (map f xs) pairs))
      (pairs-unmap xs (AllPairs-tail R (f x) (map f xs) pairs))

pub pairs-push : {X : Type 0} (R : X → X → Type 0) (xs : List X) (y : X) → AllPairs R xs → All (λ x. R x y) xs → AllPairs R (xs ++ y ∷ [])
pairs-push R xs y pairs all = all_pairs_push R xs y pairs all

-- a relation of all pairs carries over, if it does for elements with this property
pub pairs-carried : {X : Type 0} (R S : X → X → Type 0) (P : X → Type 0) (xs : List X) → ((x y : X) → P x → R x y → S x y) → All P xs → AllPairs R xs → AllPairs S xs
pairs-carried R S P xs carry all pairs i j d below within = carry (get_or xs i d) (get_or xs j d) (all i d (omega (arith, below, within))) (pairs i j d below within)

pub All-both : {X : Type 0} (P Q : X → Type 0) (xs : List X) → All P xs → All Q xs → All (λ x. P x × Q x) xs
All-both P Q xs p q k d within = (p k d within, q k d within)
