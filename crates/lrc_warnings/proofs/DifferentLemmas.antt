-- How many different numbers a list has from a place on.
use Rattle.std.proofs.Common.{◌≡◌, ℕ, ◌+◌, ◌-◌, ◌<◌, true, false, eqb, List, [], ◌∷◌, length, get_or, take, drop, refl, sym, ap, ◌∙◌, arith}
use Rattle.std.specs.List.{list_any}
use Rattle.std.specs.Set.{is_member, distinct_count}
use Rattle.std.proofs.lemmas.List.{drop_more, take_all, length-drop}
use Rattle.lrc_rules.proofs.LookUpLemmas.{test-sym}

-- a number is searched for, in either order of the comparison
searched : (x : ℕ) (ys : List ℕ) → list_any (λ y. eqb y x) ys ≡ is_member eqb ys x
searched x [] = refl
searched x (y ∷ ys) = rw (test-sym y x, searched x ys) refl

module _ (xs : List ℕ) (i : ℕ) (within : i < length xs) where
  rest_whole : take (length xs - (i + 1)) (drop (i + 1) xs) ≡ drop (i + 1) xs
  rest_whole = take_all (length xs - (i + 1)) (drop (i + 1) xs) (let l = length-drop (i + 1) xs in omega (arith, l))

  is_later : list_any (λ y. eqb y (get_or xs i 0)) (take (length xs - (i + 1)) (drop (i + 1) xs)) ≡ is_member eqb (drop (i + 1) xs) (get_or xs i 0)
  is_later = ap (list_any (λ y. eqb y (get_or xs i 0))) rest_whole ∙ searched (get_or xs i 0) (drop (i + 1) xs)

  -- the number is there later
  pub count-again : list_any (λ y. eqb y (get_or xs i 0)) (take (length xs - (i + 1)) (drop (i + 1) xs)) ≡ true
      → distinct_count eqb (drop i xs) ≡ distinct_count eqb (drop (i + 1) xs)
  count-again hit = let again = sym is_later ∙ hit in rw (drop_more xs i 0 within, again) refl

  -- the number comes for the last time
  pub count-last : list_any (λ y. eqb y (get_or xs i 0)) (take (length xs - (i + 1)) (drop (i + 1) xs)) ≡ false
      → distinct_count eqb (drop i xs) ≡ distinct_count eqb (drop (i + 1) xs) + 1
  count-last miss =
      let last = sym is_later ∙ miss in rw (drop_more xs i 0 within, last) (omega arith)
