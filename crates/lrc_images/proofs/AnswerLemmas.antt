-- Searches for a first answer: there is none exactly if no element has one.
use Rattle.std.proofs.Common.{[], ◌≡◌, ◌+◌, ℕ, Bool, true, false, not, List, ◌∷◌, ◌++◌, length, Option, Some, None, option_map, refl, sym, ◌∙◌, subst, append_assoc, append-nil}
use Rattle.std.specs.List.{All, AllPairs, Contains}
use Rattle.std.specs.Option.{option_or}
use Rattle.std.proofs.lemmas.Bool.{not_from_true}
use Rattle.std.proofs.lemmas.List.Elements.{All-nil, All-cons, All-head, All-weaker, Contains-append_right}
use Rattle.lrc_rules.proofs.MemberLemmas.{All-list_any, list_any-All, Contains-here}
use Rattle.lrc_rules.proofs.PairLemmas.{pairs-across}
use Rattle.lrc_rules.proofs.SeatingLists.{pairs-push}
use Rattle.lrc_rules.proofs.NodeWordsLemmas.{flips-false}
use Rattle.lrc_images.specs.declared.cause.Cause.{Cause}
use Rattle.lrc_images.specs.Causes.{cause_if, first_answer, at_place, is_out_of_order}

-- ---- one test after the other

pub if-none : (met : Bool) (c : Cause) (next : Option Cause) → cause_if met c next ≡ None → (met ≡ false) × (next ≡ None)
if-none true c next e = absurd (let never : Some c ≡ None = e in cc)
if-none false c next e = (refl, e)

pub none-if : (met : Bool) (c : Cause) (next : Option Cause) → met ≡ false → next ≡ None → cause_if met c next ≡ None
none-if false c next miss none = none
none-if true c next miss none = absurd (let never : true ≡ false = miss in cc)

pub or-none : {C : Type 0} (o p : Option C) → option_or o p ≡ None → (o ≡ None) × (p ≡ None)
or-none None p e = (refl, e)
or-none (Some c) p e = absurd (cc)

pub none-or : {C : Type 0} (o p : Option C) → o ≡ None → p ≡ None → option_or o p ≡ None
none-or None p e f = f
none-or (Some c) p e f = absurd (cc)

pub map-none : {C D : Type 0} (f : C → D) (o : Option C) → option_map f o ≡ None → o ≡ None
map-none f None e = refl
map-none f (Some c) e = absurd (cc)

pub none-map : {C D : Type 0} (f : C → D) (o : Option C) → o ≡ None → option_map f o ≡ None
none-map f None e = refl
none-map f (Some c) e = absurd (cc)

-- ---- the elements of a list

module _ {X C : Type 0} (ask : List X → X → Option C) where
  -- no element has an answer
  abbrev pub IsClear : List X → List X → Type 0
  IsClear before [] = Unit {0}
  IsClear before (x ∷ xs) = (ask before x ≡ None) × IsClear (before ++ x ∷ []) xs

  pub none-clear : (before xs : List X) → first_answer ask before xs ≡ None → IsClear before xs
  none-clear before [] e = tt
  none-clear before (x ∷ xs) e =
      let parts = or-none (ask before x) (first_answer ask (before ++ x ∷ []) xs) e in (parts.0, none-clear (before ++ x ∷ []) xs parts.1)

  pub clear-none : (before xs : List X) → IsClear before xs → first_answer ask before xs ≡ None
  clear-none before [] clear = refl
  clear-none before (x ∷ xs) clear =
      none-or (ask before x) (first_answer ask (before ++ x ∷ []) xs) clear.0 (clear-none (before ++ x ∷ []) xs clear.1)

  -- what no answer says of an element holds for all
  pub clear-all : (P : X → Type 0) → ((before : List X) (x : X) → ask before x ≡ None → P x) → (before xs : List X) → IsClear before xs → All P xs
  clear-all P says before [] clear = All-nil P
  clear-all P says before (x ∷ xs) clear = All-cons P x xs (says before x clear.0) (clear-all P says (before ++ x ∷ []) xs clear.1)

  -- what no answer says of an element and the earlier ones holds for all pairs
  pub clear-pairs : (R : X → X → Type 0) → ((before : List X) (x : X) → ask before x ≡ None → All (λ b. R b x) before) → (before xs : List X)
      → AllPairs R before → IsClear before xs → AllPairs R (before ++ xs)
  clear-pairs R says before [] pairs clear = subst (AllPairs R) (sym (append-nil before)) pairs
  clear-pairs R says before (x ∷ xs) pairs clear =
      subst (AllPairs R) (append_assoc before (x ∷ []) xs)
      (clear-pairs R says (before ++ x ∷ []) xs (pairs-push R before x pairs (says before x clear.0)) clear.1)

  module _ (whole : List X) where
    -- what each element without an answer keeps holds at the end
    pub clear-walk : (P : List X → Type 0)
        → ((before : List X) (x : X) (later : List X) → whole ≡ before ++ x ∷ later → P before → ask before x ≡ None → P (before ++ x ∷ []))
        → (before xs : List X) → whole ≡ before ++ xs → P before → IsClear before xs → P whole
    clear-walk P step before [] is so clear = subst P (sym (is ∙ append-nil before)) so
    clear-walk P step before (x ∷ xs) is so clear =
        clear-walk P step (before ++ x ∷ []) xs (is ∙ sym (append_assoc before (x ∷ []) xs)) (step before x xs is so clear.0) clear.1

    -- if no element has an answer, wherever the list is split, all are clear
    pub split-clear : ((before : List X) (x : X) (later : List X) → whole ≡ before ++ x ∷ later → ask before x ≡ None)
        → (before xs : List X) → whole ≡ before ++ xs → IsClear before xs
    split-clear none before [] is = tt
    split-clear none before (x ∷ xs) is =
        (none before x xs is, split-clear none (before ++ x ∷ []) xs (is ∙ sym (append_assoc before (x ∷ []) xs)))

-- positions do not matter
pub place-clear : {X : Type 0} (place : ℕ) (ask : List X → X → Option Cause) (before xs : List X) → IsClear (at_place place ask) before xs
    → IsClear ask before xs
place-clear place ask before [] clear = tt
place-clear place ask before (x ∷ xs) clear =
    (map-none (λ c. (place + length before, c)) (ask before x) clear.0, place-clear place ask (before ++ x ∷ []) xs clear.1)

pub clear-place : {X : Type 0} (place : ℕ) (ask : List X → X → Option Cause) (before xs : List X) → IsClear ask before xs
    → IsClear (at_place place ask) before xs
clear-place place ask before [] clear = tt
clear-place place ask before (x ∷ xs) clear =
    (none-map (λ c. (place + length before, c)) (ask before x) clear.0, clear-place place ask (before ++ x ∷ []) xs clear.1)

-- ---- order

module _ {X : Type 0} (first : X → X → Bool) where
  -- the element comes after each earlier one
  pub comes-after : (before : List X) (x : X) → is_out_of_order first before x ≡ false → All (λ b. first b x ≡ true) before
  comes-after before x e =
      All-weaker (λ b. not (first b x) ≡ false) (λ b. first b x ≡ true) (λ b miss. flips-false (first b x) miss) before
      (All-list_any (λ b. not (first b x)) before e)

  pub after-comes : (before : List X) (x : X) → All (λ b. first b x ≡ true) before → is_out_of_order first before x ≡ false
  after-comes before x all =
      list_any-All (λ b. not (first b x)) before
      (All-weaker (λ b. first b x ≡ true) (λ b. not (first b x) ≡ false) (λ b hit. not_from_true (first b x) hit) before all)

-- of related pairs, each element with the earlier ones
pub earlier-pairs : {X : Type 0} (R : X → X → Type 0) (before : List X) (x : X) (later : List X) → AllPairs R (before ++ x ∷ later) → All (λ b. R b x) before
earlier-pairs R before x later pairs =
    All-weaker (λ b. All (R b) (x ∷ later)) (λ b. R b x) (λ b all. All-head (R b) x later all) before (pairs-across R before (x ∷ later) pairs)

-- the element is one of the list
pub split-member : {X : Type 0} (whole before : List X) (x : X) (later : List X) → whole ≡ before ++ x ∷ later → Contains whole x
split-member whole before x later is = subst (λ xs. Contains xs x) (sym is) (Contains-append_right before (x ∷ later) x (Contains-here x later))
