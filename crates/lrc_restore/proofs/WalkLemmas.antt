-- A walk over the rows of a list: which row is out of order, and which is the first with an answer.
use Rattle.std.proofs.Common.{[], ◌≡◌, ◌+◌, ◌-◌, ◌<◌, ℕ, inl, inr, Bool, true, false, not, List, ◌∷◌, ◌++◌, length, get_or, take, drop, Option, Some, None, refl, sym, ap, ◌∙◌, subst, arith}
use Rattle.std.specs.List.{slice_get}
use Rattle.std.specs.Option.{option_or}
use Rattle.std.proofs.lemmas.Bool.{cases_order}
use Rattle.std.proofs.lemmas.List.{take_more, drop_more}
use Rattle.std.proofs.lemmas.Option.{slice_get_within, get_or_from_slice_get}
use Rattle.lrc_rules.proofs.MemberLemmas.{list_any-member}
use Rattle.lrc_rules.proofs.SeatingLists.{pairs-push}
use Rattle.lrc_images.specs.Rising.{IsRising}
use Rattle.lrc_images.specs.Causes.{first_answer, is_out_of_order}
use Rattle.lrc_images.proofs.AnswerLemmas.{comes-after, after-comes}

-- ---- order

module _ {X : Type 0} (first : X → X → Bool) where
  module _ (joins : (a b c : X) → first a b ≡ true → first b c ≡ true → first a c ≡ true) (before : List X) (rising : IsRising first before) (l : X)
      (last : slice_get before (length before - 1) ≡ Some l) (x : X) where
    -- a row behind the last of rising rows comes after all of them
    last-first : first l x ≡ true → is_out_of_order first before x ≡ false
    last-first ahead = after-comes first before x (λ k d within. elim (cases_order k (length before - 1)) [
      | inl same ↦
          subst (λ (z : X). first z x ≡ true) (sym (ap (λ (i : ℕ). get_or before i d) same ∙ get_or_from_slice_get before (length before - 1) l d last)) ahead
      | inr (inl below) ↦
          joins (get_or before k d) l x
          (subst (λ (z : X). first (get_or before k d) z ≡ true) (get_or_from_slice_get before (length before - 1) l d last)
          (rising k (length before - 1) d below (slice_get_within before (length before - 1) l last))) ahead
      | inr (inr above) ↦ absurd (omega (arith, within, above))
    ])

    -- any other row does not come after the last
    last-not : first l x ≡ false → is_out_of_order first before x ≡ true
    last-not behind =
        list_any-member (λ (b : X). not (first b x)) before l
        (length before - 1, slice_get_within before (length before - 1) l last, get_or_from_slice_get before (length before - 1) l l last) (ap not behind)

    -- so the last row tells
    pub last-tells : is_out_of_order first before x ≡ not (first l x)
    last-tells = by (first l x) refl where
      by : (b : Bool) → first l x ≡ b → is_out_of_order first before x ≡ not b
      by true is = last-first is
      by false is = last-not is

-- ---- the first answer

module _ {X C : Type 0} (ask : List X → X → Option C) (xs : List X) where
  -- no element before this place has an answer
  abbrev pub IsFrom : ℕ → Type 0
  IsFrom i = first_answer ask (take i xs) (drop i xs) ≡ first_answer ask [] xs

  pub from-start : IsFrom 0
  from-start = refl

  module _ (i : ℕ) (d : X) (within : i < length xs) where
    -- the element of this place
    abbrev pub here : X
    here = get_or xs i d

    answer-from : first_answer ask (take i xs) (drop i xs) ≡ option_or (ask (take i xs) here) (first_answer ask (take i xs ++ here ∷ []) (drop (i + 1) xs))
    answer-from = ap (first_answer ask (take i xs)) (drop_more xs i d within)

    -- the first answer is that of this element, if it has one
    pub from-here : IsFrom i → first_answer ask [] xs ≡ option_or (ask (take i xs) here) (first_answer ask (take i xs ++ here ∷ []) (drop (i + 1) xs))
    from-here from = sym from ∙ answer-from

    -- an element without an answer is passed
    pub from-next : ask (take i xs) here ≡ None → IsFrom i → IsFrom (i + 1)
    from-next none from =
        ap (λ (before : List X). first_answer ask before (drop (i + 1) xs)) (take_more xs i d within)
        ∙ sym (answer-from ∙ ap (λ (o : Option C). option_or o (first_answer ask (take i xs ++ here ∷ []) (drop (i + 1) xs))) none) ∙ from

    -- an element with an answer gives the first one
    pub from-found : (c : C) → ask (take i xs) here ≡ Some c → IsFrom i → first_answer ask [] xs ≡ Some c
    from-found c some from =
        from-here from ∙ ap (λ (o : Option C). option_or o (first_answer ask (take i xs ++ here ∷ []) (drop (i + 1) xs))) some

-- an element that is not out of order leaves the list rising
pub rising-next : {X : Type 0} (first : X → X → Bool) (xs : List X) (i : ℕ) (d : X) → i < length xs → IsRising first (take i xs)
    → is_out_of_order first (take i xs) (get_or xs i d) ≡ false → IsRising first (take (i + 1) xs)
rising-next first xs i d within rising order =
    subst (IsRising first) (sym (take_more xs i d within))
    (pairs-push (λ a b. first a b ≡ true) (take i xs) (get_or xs i d) rising (comes-after first (take i xs) (get_or xs i d) order))
