-- A list that is split at an element, joined again.
use Rattle.std.proofs.Common.{◌≡◌, ◌<◌, Bool, true, false, cond, List, [], ◌∷◌, ◌++◌, length, refl, sym, ap, ◌∙◌, arith}
use Rattle.std.specs.List.{slice_split, onto_first, flat_map}
use Rattle.std.proofs.lemmas.List.Splits.{slice_split-cons_yes, length-slice_split}

-- the parts, with the element between each two
abbrev pub joined_by : {X : Type 0} → X → List (List X) → List X
joined_by s [] = []
joined_by s (part ∷ parts) = part ++ flat_map (λ next. s ∷ next) parts

module _ {X : Type 0} (p : X → Bool) (s : X) (only : (x : X) → p x ≡ true → x ≡ s) where
  joined_onto : (x : X) (parts : List (List X)) → joined_by s (onto_first x parts) ≡ x ∷ joined_by s parts
  joined_onto x [] = refl
  joined_onto x (part ∷ parts) = refl

  joined_empty : (parts : List (List X)) → 0 < length parts → joined_by s ([] ∷ parts) ≡ s ∷ joined_by s parts
  joined_empty [] some = absurd (omega (arith, some))
  joined_empty (part ∷ parts) some = refl

  joined_step : (b : Bool) (x : X) (parts : List (List X)) → p x ≡ b → 0 < length parts → joined_by s (cond b ([] ∷ parts) (onto_first x parts)) ≡ x ∷ joined_by s parts
  joined_step true x parts is some = joined_empty parts some ∙ ap (λ y. y ∷ joined_by s parts) (sym (only x is))
  joined_step false x parts is some = joined_onto x parts

  pub joined_parts : (xs : List X) → joined_by s (slice_split p xs) ≡ xs
  joined_parts [] = refl
  joined_parts (x ∷ xs) = joined_step (p x) x (slice_split p xs) refl (omega (arith, length-slice_split p xs)) ∙ ap (λ ys. x ∷ ys) (joined_parts xs)

-- a list that is cut at an element: its parts are those before it, and then those behind it
module _ {X : Type 0} (p : X → Bool) (y : X) (ys : List X) (cuts : p y ≡ true) where
  onto_first-behind : (x : X) (parts more : List (List X)) → 0 < length parts → onto_first x (parts ++ more) ≡ onto_first x parts ++ more
  onto_first-behind x [] more some = absurd (omega (arith, some))
  onto_first-behind x (part ∷ parts) more some = refl

  behind_step : (b : Bool) (x : X) (parts more : List (List X)) → 0 < length parts → cond b ([] ∷ (parts ++ more)) (onto_first x (parts ++ more)) ≡ cond b ([] ∷ parts) (onto_first x parts) ++ more
  behind_step true x parts more some = refl
  behind_step false x parts more some = onto_first-behind x parts more some

  pub slice_split-behind : (xs : List X) → slice_split p (xs ++ y ∷ ys) ≡ slice_split p xs ++ slice_split p ys
  slice_split-behind [] = slice_split-cons_yes p y ys cuts
  slice_split-behind (x ∷ xs) =
      ap (λ parts. cond (p x) ([] ∷ parts) (onto_first x parts)) (slice_split-behind xs)
      ∙ behind_step (p x) x (slice_split p xs) (slice_split p ys) (omega (arith, length-slice_split p xs))
