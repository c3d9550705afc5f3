-- Positions of first answers: where the first answer of a list stands, and what it is if the list is cut.
use Rattle.std.proofs.Common.{[], ◌≡◌, ◌⊎◌, ◌↔◌, ℕ, zero, suc, ◌+◌, ◌<◌, ◌≤◌, inl, inr, Bool, true, false, List, ◌∷◌, ◌++◌, length, take, Option, Some, None, option_map, refl, sym, ap, ◌∙◌, subst, append_assoc, append-nil, length-append, arith}
use Rattle.std.specs.Option.{option_or}
use Rattle.std.specs.List.{All}
use Rattle.std.proofs.lemmas.List.Elements.{All-nil, All-cons, All-head, All-tail}
use Rattle.lrc_images.specs.declared.cause.Cause.{Cause}
use Rattle.lrc_images.specs.Causes.{cause_if, first_answer, at_place}
use Rattle.lrc_images.specs.Faults.{IsFirst, IsFirstIn}

-- an answer with its position
abbrev pub Answer : Type 0
Answer = Option (ℕ × Cause)

-- no position is below this one
abbrev pub IsFrom : ℕ → Answer → Type 0
IsFrom low o = (p : ℕ) (c : Cause) → o ≡ Some (p, c) → low ≤ p

-- each position is below this one
abbrev pub IsBelow : ℕ → Answer → Type 0
IsBelow high o = (p : ℕ) (c : Cause) → o ≡ Some (p, c) → p < high

pub none-from : (low : ℕ) → IsFrom low None
none-from low p c is = absurd (cc)

pub or-from : (low : ℕ) (o q : Answer) → IsFrom low o → IsFrom low q → IsFrom low (option_or o q)
or-from low None q first second = second
or-from low (Some r) q first second = first

pub or-below : (high : ℕ) (o q : Answer) → IsBelow high o → IsBelow high q → IsBelow high (option_or o q)
or-below high None q first second = second
or-below high (Some r) q first second = first

pub later-from : (low lower : ℕ) (o : Answer) → lower ≤ low → IsFrom low o → IsFrom lower o
later-from low lower o less from p c is = let at = from p c is in omega (arith, less, at)

pub wider-below : (high higher : ℕ) (o : Answer) → high ≤ higher → IsBelow high o → IsBelow higher o
wider-below high higher o less below p c is = let at = below p c is in omega (arith, less, at)

pub same-answer : {R : Type 0} (a b : R) → Some a ≡ Some b → a ≡ b
same-answer a b is = cc

-- a cause with a position has it
pub own-place : (place p : ℕ) (o : Option Cause) (c : Cause) → option_map {U = ℕ × Cause} (λ c. (place, c)) o ≡ Some (p, c) → place ≡ p
own-place place p None c is = absurd (cc)
own-place place p (Some d) c is = ap (λ (r : ℕ × Cause). r.0) (same-answer {R = ℕ × Cause} (place, d) (p, c) is)

own-cause : (place p : ℕ) (o : Option Cause) (c : Cause) → option_map {U = ℕ × Cause} (λ c. (place, c)) o ≡ Some (p, c) → o ≡ Some c
own-cause place p None c is = absurd (cc)
own-cause place p (Some d) c is = ap (λ (r : ℕ × Cause). Some r.1) (same-answer {R = ℕ × Cause} (place, d) (p, c) is)

pub or-assoc : (a b c : Answer) → option_or (option_or a b) c ≡ option_or a (option_or b c)
or-assoc None b c = refl
or-assoc (Some r) b c = refl

-- the answer at a place, if all others are of later ones
pub at-place : (place : ℕ) (o : Option Cause) (rest : Answer) (c : Cause) → IsFrom (place + 1) rest
    → (option_or (option_map {U = ℕ × Cause} (λ c. (place, c)) o) rest ≡ Some (place, c)) ↔ (o ≡ Some c)
at-place place None rest c from = (λ is. absurd (let at = from place c is in omega (arith, at)), λ is. absurd (cc))
at-place place (Some d) rest c from =
    (λ is. own-cause place place (Some d) c is, λ is. ap (λ (o : Option Cause). option_or (option_map {U = ℕ × Cause} (λ c. (place, c)) o) rest) is)

-- the answer of a cut is that of the whole, if its position is below the bound; all others are not below it
pub record IsSplit (bound : ℕ) (whole cut : Answer) : Type 0 where
  pub rest : Answer
  pub is : whole ≡ option_or cut rest
  pub from : IsFrom bound rest
  pub below : IsBelow bound cut

module _ {X : Type 0} (place : ℕ) (ask : List X → X → Option Cause) where
  abbrev pub walk : List X → List X → Answer
  walk before xs = first_answer (at_place place ask) before xs

  pub walk-from : (before xs : List X) → IsFrom (place + length before) (walk before xs)
  walk-from before [] = none-from (place + length before)
  walk-from before (x ∷ xs) =
      or-from (place + length before) (at_place place ask before x) (walk (before ++ x ∷ []) xs)
      (λ p c is. let at = own-place (place + length before) p (ask before x) c is in omega (arith, at))
      (λ p c is. let at = walk-from (before ++ x ∷ []) xs p c is in let long = length-append before (x ∷ []) in omega (arith, at, long))

  pub walk-below : (before xs : List X) → IsBelow (place + length before + length xs) (walk before xs)
  walk-below before [] = λ p c is. absurd (cc)
  walk-below before (x ∷ xs) =
      or-below (place + length before + length (x ∷ xs)) (at_place place ask before x) (walk (before ++ x ∷ []) xs)
      (λ p c is. let at = own-place (place + length before) p (ask before x) c is in omega (arith, at))
      (λ p c is. let at = walk-below (before ++ x ∷ []) xs p c is in let long = length-append before (x ∷ []) in omega (arith, at, long))

  -- a walk that is cut after some elements
  pub walk-split : (before xs : List X) (k : ℕ) → IsSplit (place + length before + k) (walk before xs) (walk before (take k xs))
  walk-split before xs zero = record {
    rest = walk before xs;
    is = refl;
    from = λ p c is. let at = walk-from before xs p c is in omega (arith, at);
    below = λ p c is. absurd (cc);
  }
  walk-split before [] (suc k) = record { rest = None; is = refl; from = none-from (place + length before + suc k); below = λ p c is. absurd (cc) }
  walk-split before (x ∷ xs) (suc k) =
      let later = walk-split (before ++ x ∷ []) xs k in
      let long = length-append before (x ∷ []) in
      record {
        rest = later.rest;
        is = ap (option_or (at_place place ask before x)) later.is ∙ sym (or-assoc (at_place place ask before x) (walk (before ++ x ∷ []) (take k xs)) later.rest);
        from = λ p c is. let at = later.from p c is in omega (arith, at, long);
        below = or-below (place + length before + suc k) (at_place place ask before x) (walk (before ++ x ∷ []) (take k xs))
            (λ p c is. let at = own-place (place + length before) p (ask before x) c is in omega (arith, at))
            (λ p c is. let at = later.below p c is in omega (arith, at, long));
      }

  -- the answers of two lists, one after the other
  pub walk-append : (before xs ys : List X) → walk before (xs ++ ys) ≡ option_or (walk before xs) (walk (before ++ xs) ys)
  walk-append before [] ys = ap (λ (b : List X). walk b ys) (sym (append-nil before))
  walk-append before (x ∷ xs) ys =
      ap (option_or (at_place place ask before x))
      (walk-append (before ++ x ∷ []) xs ys ∙ ap (λ (b : List X). option_or (walk (before ++ x ∷ []) xs) (walk b ys)) (append_assoc before (x ∷ []) xs))
      ∙ sym (or-assoc (at_place place ask before x) (walk (before ++ x ∷ []) xs) (walk (before ++ x ∷ xs) ys))

-- ---- one list after the other

or-none : (o : Answer) → option_or o None ≡ o
or-none None = refl
or-none (Some r) = refl

-- what follows a list that the bound ends in
pub split-here : (bound : ℕ) (n n' tail tail' : Answer) → IsSplit bound n n' → IsFrom bound tail → tail' ≡ None → IsSplit bound (option_or n tail) (option_or n' tail')
split-here bound n n' tail tail' split from none = record {
  rest = option_or split.rest tail;
  is = ap (λ (o : Answer). option_or o tail) split.is
      ∙ or-assoc n' split.rest tail
      ∙ ap (λ (o : Answer). option_or o (option_or split.rest tail)) (sym (or-none n'))
      ∙ ap (λ (o : Answer). option_or (option_or n' o) (option_or split.rest tail)) (sym none);
  from = or-from bound split.rest tail split.from from;
  below = or-below bound n' tail' split.below (subst (IsBelow bound) (sym none) (λ p c is. absurd (cc)));
}

-- what follows a list that ends before the bound
pub split-later : (bound : ℕ) (n n' tail tail' : Answer) → n' ≡ n → IsBelow bound n → IsSplit bound tail tail' → IsSplit bound (option_or n tail) (option_or n' tail')
split-later bound n n' tail tail' same below split = record {
  rest = split.rest;
  is = ap (option_or n) split.is
      ∙ sym (or-assoc n tail' split.rest)
      ∙ ap (λ (o : Answer). option_or (option_or o tail') split.rest) (sym same);
  from = split.from;
  below = or-below bound n' tail' (subst (IsBelow bound) (sym same) below) split.below;
}

-- ---- what a split says

module _ (k : ℕ) (whole cut : Answer) (split : IsSplit (k + 1) whole cut) where
  pub split-cut : (p : ℕ) (c : Cause) → whole ≡ Some (p, c) → p ≤ k → cut ≡ Some (p, c)
  split-cut p c is low = by-cut cut split.is
    where
      by-cut : (o : Answer) → whole ≡ option_or o split.rest → o ≡ Some (p, c)
      by-cut None so = absurd (let at = split.from p c (sym so ∙ is) in omega (arith, at, low))
      by-cut (Some r) so = sym so ∙ is

  pub cut-split : (p : ℕ) (c : Cause) → cut ≡ Some (p, c) → whole ≡ Some (p, c)
  cut-split p c is = split.is ∙ ap (λ (o : Answer). option_or o split.rest) is

  pub split-none : (p : ℕ) (c : Cause) → whole ≡ Some (p, c) → k < p → cut ≡ None
  split-none p c is high = by-cut cut split.is split.below
    where
      by-cut : (o : Answer) → whole ≡ option_or o split.rest → IsBelow (k + 1) o → o ≡ None
      by-cut None so below = refl
      by-cut (Some r) so below = absurd (let at = below p c (sym so ∙ is) in omega (arith, at, high))

-- ---- causes in words

pub both-ways : {A B C : Type 0} → A ↔ B → B ↔ C → A ↔ C
both-ways f g = (λ a. g.0 (f.0 a), λ c. f.1 (g.1 c))

-- faults that are the same one by one have the same first
pub first-same : (F G : Cause → Type 0) → ((d : Cause) → F d ↔ G d) → (causes : List Cause) (c : Cause) → IsFirst F causes c ↔ IsFirst G causes c
first-same F G same [] c = (λ never. never, λ never. never)
first-same F G same (d ∷ ds) c =
    let rest = first-same F G same ds c in (
      λ is. elim is [ inl here ↦ inl ((same d).0 here.0, here.1) | inr later ↦ inr (λ g. later.0 ((same d).1 g), rest.0 later.1) ],
      λ is. elim is [ inl here ↦ inl ((same d).1 here.0, here.1) | inr later ↦ inr (λ f. later.0 ((same d).0 f), rest.1 later.1) ],
    )

-- one cause more
pub first-if : (met : Bool) (d c : Cause) (next : Option Cause) (F N : Type 0) → ((met ≡ true) ↔ F) → (met ≡ false → (next ≡ Some c) ↔ N)
    → (cause_if met d next ≡ Some c) ↔ ((F × (c ≡ d)) ⊎ ((¬ F) × N))
first-if true d c next F N own more = (
  λ is. inl (own.0 refl, sym (same-answer d c is)),
  λ p. elim p [ inl here ↦ ap (λ (x : Cause). Some x) (sym here.1) | inr later ↦ absurd (later.0 (own.0 refl)) ],
)
first-if false d c next F N own more = (
  λ is. inr (λ f. (let never : false ≡ true = own.1 f in cc), (more refl).0 is),
  λ p. elim p [ inl here ↦ absurd (let never : false ≡ true = own.1 here.0 in cc) | inr later ↦ (more refl).1 later.1 ],
)

pub first-none : (c : Cause) → (None ≡ Some c) ↔ ⊥
first-none c = (λ is. absurd (cc), λ never. absurd never)

-- if no cause is the first of a list, there is no fault of its causes
none-first : (fault : Cause → Type 0) (causes : List Cause) → ((c : Cause) → IsFirst fault causes c → ⊥) → All (λ d. ¬ fault d) causes
none-first fault [] none = All-nil (λ d. ¬ fault d)
none-first fault (d ∷ ds) none =
    let miss : ¬ fault d = λ f. none d (inl (f, refl)) in
    All-cons (λ d. ¬ fault d) d ds miss (none-first fault ds (λ c is. none c (inr (miss, is))))

not-first : (fault : Cause → Type 0) (causes : List Cause) (c : Cause) → IsFirst fault causes c → All (λ d. ¬ fault d) causes → ⊥
not-first fault [] c is none = is
not-first fault (d ∷ ds) c is none = elim is [
  | inl here ↦ All-head (λ d. ¬ fault d) d ds none here.0
  | inr later ↦ not-first fault ds c later.1 (All-tail (λ d. ¬ fault d) d ds none)
]

-- the first cause of the elements of a list, in words, if that of each is
module _ {X : Type 0} (ask : List X → X → Option Cause) (fault : List X → X → Cause → Type 0) (causes : List Cause) (P : X → Type 0)
    (own : (before : List X) (x : X) (c : Cause) → P x → (ask before x ≡ Some c) ↔ IsFirst (fault before x) causes c) where
  first-in : (o : Option Cause) (before : List X) (x : X) (xs : List X) → P x → ask before x ≡ o → (c : Cause)
      → ((first_answer ask (before ++ x ∷ []) xs ≡ Some c) ↔ IsFirstIn fault causes (before ++ x ∷ []) xs c)
      → (option_or o (first_answer ask (before ++ x ∷ []) xs) ≡ Some c) ↔ IsFirstIn fault causes before (x ∷ xs) c
  first-in None before x xs is asked c more =
      let none = none-first (fault before x) causes (λ d first. let hit = sym asked ∙ (own before x d is).1 first in (let never : ◌≡◌ {A = Option Cause} None (Some d) = hit in cc)) in (
        λ found. inr (none, more.0 found),
        λ p. elim p [ inl here ↦ absurd (not-first (fault before x) causes c here none) | inr later ↦ more.1 later.1 ],
      )
  first-in (Some d) before x xs is asked c more =
      let first = (own before x d is).0 asked in (
        λ found. inl ((own before x c is).0 (asked ∙ found)),
        λ p. elim p [ inl here ↦ sym asked ∙ (own before x c is).1 here | inr later ↦ absurd (not-first (fault before x) causes d first later.0) ],
      )

  pub first-of : (before xs : List X) → All P xs → (c : Cause) → (first_answer ask before xs ≡ Some c) ↔ IsFirstIn fault causes before xs c
  first-of before [] all c = first-none c
  first-of before (x ∷ xs) all c =
      first-in (ask before x) before x xs (All-head P x xs all) refl c (first-of (before ++ x ∷ []) xs (All-tail P x xs all) c)

-- ---- the cause of one row

-- after rows without a cause, the answer at the row's place is its cause
pub row-at : {X : Type 0} (place : ℕ) (ask : List X → X → Option Cause) (before : List X) (x : X) (later xs : List X) (tail : Answer) (c : Cause) → xs ≡ before ++ x ∷ later
    → walk place ask [] before ≡ None → IsFrom (place + length xs) tail
    → (option_or (walk place ask [] xs) tail ≡ Some (place + length before, c)) ↔ (ask before x ≡ Some c)
row-at {X} place ask before x later xs tail c split clear from =
    let rest = walk place ask (before ++ x ∷ []) later in
    let here = at_place place ask before x in
    let same : option_or (walk place ask [] xs) tail ≡ option_or here (option_or rest tail) =
    ap (λ (ys : List X). option_or (walk place ask [] ys) tail) split
    ∙ ap (λ (o : Answer). option_or o tail) (walk-append place ask [] before (x ∷ later) ∙ ap (λ (o : Answer). option_or o (walk place ask before (x ∷ later))) clear)
    ∙ or-assoc here rest tail in
    let long : length xs ≡ length before + length (x ∷ later) = ap length split ∙ length-append before (x ∷ later) in
    let above = or-from (place + length before + 1) rest tail
    (λ p c is. let at = walk-from place ask (before ++ x ∷ []) later p c is in let more = length-append before (x ∷ []) in omega (arith, at, more))
    (later-from (place + length xs) (place + length before + 1) tail (omega (arith, long)) from) in
    subst (λ (o : Answer). (o ≡ Some (place + length before, c)) ↔ (ask before x ≡ Some c)) (sym same) (at-place (place + length before) (ask before x) (option_or rest tail) c above)
