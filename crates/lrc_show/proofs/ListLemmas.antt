-- Walks along a list.
use Rattle.std.proofs.Common.{◌≡◌, ℕ, ◌+◌, ◌<◌, ◌≤◌, List, [], ◌∷◌, ◌++◌, length, get_or, take, flat_map, sym, ap, ◌∙◌, append_assoc, append-nil}
use Rattle.std.proofs.lemmas.List.{take_all, take_more}
use Rattle.std.proofs.lemmas.List.Concat.{flat_map-append}

-- ---- texts and rows of the elements so far

module _ {X Y : Type 0} (of : X → List Y) (xs : List X) (i : ℕ) where
  -- one element more
  pub flat-more : (d : X) (start old new : List Y) → i < length xs → old ≡ start ++ flat_map of (take i xs) → new ≡ old ++ of (get_or xs i d)
      → new ≡ start ++ flat_map of (take (i + 1) xs)
  flat-more d start old new within so_far next =
      next ∙ ap (λ l. l ++ of (get_or xs i d)) so_far ∙ append_assoc start (flat_map of (take i xs)) (of (get_or xs i d))
      ∙ ap (λ l. start ++ l) (sym (ap (flat_map of) (take_more xs i d within) ∙ flat_map-append of (take i xs) (get_or xs i d ∷ [])
      ∙ ap (λ l. flat_map of (take i xs) ++ l) (append-nil (of (get_or xs i d)))))

  -- all elements
  pub flat-all : (start now : List Y) → length xs ≤ i → now ≡ start ++ flat_map of (take i xs) → now ≡ start ++ flat_map of xs
  flat-all start now end so_far = so_far ∙ ap (λ ys. start ++ flat_map of ys) (take_all i xs end)

-- a table: its head, and a row for each element
pub table-all : {X : Type 0} (of : X → List ℕ) (xs ys : List X) (i : ℕ) (head old start now : List ℕ) → length xs ≤ i → now ≡ start ++ flat_map of (take i xs)
    → start ≡ old ++ head → xs ≡ ys → now ≡ old ++ (head ++ flat_map of ys)
table-all of xs ys i head old start now end so_far begun same =
    flat-all of xs i start now end so_far ∙ ap (λ l. l ++ flat_map of xs) begun ∙ append_assoc old head (flat_map of xs)
    ∙ ap (λ zs. old ++ (head ++ flat_map of zs)) same
