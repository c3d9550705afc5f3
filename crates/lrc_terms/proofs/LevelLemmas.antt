-- Levels and ranks of sets of missing fragments.
use Rattle.std.proofs.Common.{◌≡◌, ℕ, zero, suc, ◌+◌, ◌<◌, ◌≤◌, ◌-◌, ◌↔◌, ◌⊎◌, inl, inr, Bool, true, false, not, cond, IsTrue, List, [], ◌∷◌, length, get_or, count_by, Option, Some, None, is_none, arith, refl, sym, ap, ◌∙◌, subst}
use Rattle.std.specs.Int.{bit_at}
use Rattle.std.specs.Option.{option_map_or}
use Rattle.std.proofs.lemmas.Bool.{cases_Bool, eqb-false, ltb-true, ltb-false, and_parts, and_from, false_from_ne_true, true_from_ne_false}
use Rattle.std.proofs.lemmas.List.Sums.{sum_by-cons}
use Rattle.std.proofs.lemmas.Nat.Bits.{bit_at-zero, bit_at-lt, same_from_bits_below}
use Rattle.lrc_code.specs.declared.codes.Code.{Code}
use Rattle.lrc_code.specs.declared.codes.Code.TheVariants.{Wide}
use Rattle.lrc_code.specs.declared.codes.Class.TheVariants.{G}
use Rattle.lrc_code.specs.declared.numbers.NodeNo.{NodeNo}
use Rattle.lrc_code.specs.declared.numbers.Fragment.{Fragment}
use Rattle.lrc_code.specs.Codes.{fragments, fragment_count, has_fragment}
use Rattle.lrc_code.specs.Losses.{FragmentSet, losses_in, size_of, bits_set, IsRecoverable, is_recoverable, IsMargin, margin_of}
use Rattle.lrc_code.proofs.LossesLemmas.{by_test, size_of-classes}
use Rattle.lrc_code.proofs.MarginLemmas.{by_margin, by_no_margin, margin_all_whole, IsMargin-unique}
use Rattle.lrc_code.proofs.SizeLemmas.{recoverable_part, three_recoverable, margin-two}
use Rattle.lrc_topology.specs.declared.seat.Seat.{Seat}
use Rattle.lrc_terms.specs.declared.level.Level.TheVariants.{Whole, AtRisk, Unavailable, Lost}
use Rattle.lrc_terms.specs.Levels.{Homes, homeless_in, missing_in, SomeMissing, NoneMissing, has_some, level_by, level_at, rank_by, rank_at}
use Rattle.lrc_terms.proofs.CodeListLemmas.{fragment-number_in, few-fragments, fragments-long}

-- ---- whether a set has a fragment

none_counted_at : {X : Type 0} (p : X → Bool) (x : X) (xs : List X) → p x ≡ false → ((i : ℕ) (d : X) → i < length xs → p (get_or xs i d) ≡ false) → (i : ℕ) (d : X) → i < length (x ∷ xs) → p (get_or (x ∷ xs) i d) ≡ false
none_counted_at p x xs miss rest zero d within = miss
none_counted_at p x xs miss rest (suc i) d within = rest i d (omega (arith, within))

none_counted : {X : Type 0} (p : X → Bool) (xs : List X) → count_by p xs ≡ 0 → (i : ℕ) (d : X) → i < length xs → p (get_or xs i d) ≡ false
none_counted p [] none i d within = absurd (omega (arith, within))
none_counted p (x ∷ xs) none i d within =
    let both : cond (p x) 1 0 + count_by p xs ≡ 0 = rw (← sum_by-cons (λ y. cond (p y) 1 0) x xs) none in
    elim (cases_Bool (p x)) [
      | inl hit ↦ let one : 1 + count_by p xs ≡ 0 = rw hit at both in absurd (omega (arith, one))
      | inr miss ↦ none_counted_at p x xs miss (none_counted p xs (omega (arith, both))) i d within
    ]

one_counted : {X : Type 0} (p : X → Bool) (xs : List X) → 0 < count_by p xs → (i : ℕ) × (i < length xs) × ((d : X) → p (get_or xs i d) ≡ true)
one_counted p [] some = absurd (omega (arith, some))
one_counted p (x ∷ xs) some = elim (cases_Bool (p x)) [
  | inl hit ↦ (0, omega arith, λ d. hit)
  | inr miss ↦
      let more : 0 < cond (p x) 1 0 + count_by p xs = rw (← sum_by-cons (λ y. cond (p y) 1 0) x xs) some in
      let rest = one_counted p xs (let m : 0 < 0 + count_by p xs = rw miss at more in omega (arith, m)) in
      (suc rest.0, omega (arith, rest.1), rest.2)
]

pub has_some-false : (code : Code) (m : FragmentSet) → has_some code m ≡ false → NoneMissing code m
has_some-false code m none f within =
    let size : size_of code m ≡ 0 = let z = ltb-false 0 (size_of code m) none in omega (arith, z) in
    let low : f < 16 = omega (arith, within, few-fragments code) in
    let d : Fragment = record { value = f; in_range = low } in
    subst (λ n. m n ≡ false) (fragment-number_in code f d within) (none_counted (λ g. m g.value) (fragments code) size f d (omega (arith, within, fragments-long code)))

pub has_some-true : (code : Code) (m : FragmentSet) → has_some code m ≡ true → SomeMissing code m
has_some-true code m some =
    let (i, inside, hit) = one_counted (λ (g : Fragment). m g.value) (fragments code) (ltb-true 0 (size_of code m) some) in
    let within : i < fragment_count code = omega (arith, inside, fragments-long code) in
    let low : i < 16 = omega (arith, within, few-fragments code) in
    let d : Fragment = record { value = i; in_range = low } in
    (i, within, subst (λ n. m n ≡ true) (fragment-number_in code i d within) (hit d))

pub has_some-from : (code : Code) (m : FragmentSet) → SomeMissing code m → has_some code m ≡ true
has_some-from code m (f, within, hit) = true_from_ne_false (has_some code m) (λ none. let miss = has_some-false code m none f within in let e : true ≡ false = sym hit ∙ miss in cc)

pub has_some-none : (code : Code) (m : FragmentSet) → NoneMissing code m → has_some code m ≡ false
has_some-none code m none = false_from_ne_true (has_some code m) (λ some. let (f, within, hit) = has_some-true code m some in let e : true ≡ false = sym hit ∙ none f within in cc)

-- if no fragment is missing, three more can be lost
none_losses : (code : Code) (m : FragmentSet) → NoneMissing code m → size_of code m ≡ 0
none_losses code m none = let z = ltb-false 0 (size_of code m) (has_some-none code m none) in omega (arith, z)

pub none_recoverable : (code : Code) (m : FragmentSet) → NoneMissing code m → IsRecoverable code m
none_recoverable code m none = three_recoverable code m (let z = none_losses code m none in omega (arith, z))

pub none_margin : (code : Code) (m : FragmentSet) (t : ℕ) → NoneMissing code m → IsMargin code m t → t ≡ 3
none_margin code m t none margin =
    let zero_size = none_losses code m none in
    let parts = size_of-classes code m in
    let three = margin_all_whole code m margin.recoverable (omega (arith, zero_size, parts)) in
    let same = IsMargin-unique code m t (3 - losses_in code G m) margin three in
    omega (arith, same, zero_size, parts)

-- ---- the level of a homeless and a missing set

zero_bit : (b i : ℕ) → bits_set b i ≡ false → bit_at b i ≡ bit_at 0 i
zero_bit b i miss = let few = bit_at-lt b i in let apart = eqb-false _ _ miss in rw (bit_at-zero i) (let z : bit_at b i ≡ 0 = omega (arith, few, apart) in z)

pub has_some-zero : (code : Code) (b : ℕ) → b ≡ 0 → has_some code (bits_set b) ≡ false
has_some-zero code b zero_b = has_some-none code (bits_set b) (λ f within. rw (zero_b, bit_at-zero f) refl)

pub has_some-bits : (b : ℕ) → b < 65536 → (b ≡ 0 → ⊥) → has_some Wide (bits_set b) ≡ true
has_some-bits b few some =
    true_from_ne_false (has_some Wide (bits_set b)) (λ none. some (same_from_bits_below 16 b 0 few (omega arith) (λ i within. zero_bit b i (has_some-false Wide (bits_set b) none i within))))

-- the margin is 3 only if no fragment is missing, and then it is 3
pub margin-none : (code : Code) (m : FragmentSet) → margin_of code m ≡ Some 3 → has_some code m ≡ false
margin-none code m is = false_from_ne_true (has_some code m) (λ some.
    let two = margin-two code m 3 (ltb-true 0 (size_of code m) some) ((by_margin code m 3).0 is) in absurd (omega (arith, two)))

pub margin-some : (code : Code) (m : FragmentSet) (t : ℕ) → margin_of code m ≡ Some t → (t ≡ 3 → ⊥) → has_some code m ≡ true
margin-some code m t is other = true_from_ne_false (has_some code m) (λ none.
    other (none_margin code m t (has_some-false code m none) ((by_margin code m t).0 is)))

module _ (code : Code) (homeless missing : FragmentSet) where
  pub level_by-lost : is_recoverable code homeless ≡ false → level_by code homeless missing ≡ Lost
  unfolding level_by
  level_by-lost not_held = rw not_held refl

  pub level_by-held : (margin : Option ℕ) (some : Bool) → is_recoverable code homeless ≡ true → margin_of code missing ≡ margin → has_some code missing ≡ some → level_by code homeless missing ≡ level_at margin some
  unfolding level_by
  level_by-held margin some held is are = rw (held, is, are) refl

  -- the four levels, and when each one applies
  abbrev LevelCases : Type 0
  LevelCases =
      ((is_recoverable code homeless ≡ false) × (level_by code homeless missing ≡ Lost))
      ⊎ (((is_recoverable code homeless ≡ true) × (margin_of code missing ≡ None) × (level_by code homeless missing ≡ Unavailable))
      ⊎ (((t : ℕ) × (is_recoverable code homeless ≡ true) × (margin_of code missing ≡ Some t) × (has_some code missing ≡ true) × (level_by code homeless missing ≡ AtRisk t))
      ⊎ ((t : ℕ) × (is_recoverable code homeless ≡ true) × (margin_of code missing ≡ Some t) × (has_some code missing ≡ false) × (level_by code homeless missing ≡ Whole))))

  cases_margin : (o : Option ℕ) → margin_of code missing ≡ o → is_recoverable code homeless ≡ true → LevelCases
  cases_margin None e held = inr (inl (held, e, level_by-held None (has_some code missing) held e refl))
  cases_margin (Some t) e held = elim (cases_Bool (has_some code missing)) [
    | inl some ↦ inr (inr (inl (t, held, e, some, level_by-held (Some t) true held e some)))
    | inr none ↦ inr (inr (inr (t, held, e, none, level_by-held (Some t) false held e none)))
  ]

  cases_level : LevelCases
  cases_level = elim (cases_Bool (is_recoverable code homeless)) [
    | inl held ↦ cases_margin (margin_of code missing) refl held
    | inr not_held ↦ inl (not_held, level_by-lost not_held)
  ]

  -- ---- the laws

  held_is : is_recoverable code homeless ≡ true → IsRecoverable code homeless
  held_is held = (by_test code homeless).0 held

  not_held_is : is_recoverable code homeless ≡ false → ¬ IsRecoverable code homeless
  not_held_is not_held r = let held = (by_test code homeless).1 r in let e : true ≡ false = sym held ∙ not_held in cc

  no_margin_is : margin_of code missing ≡ None → ¬ IsRecoverable code missing
  no_margin_is none = (by_no_margin code missing).0 none

  margin_is : (t : ℕ) → margin_of code missing ≡ Some t → IsMargin code missing t
  margin_is t e = (by_margin code missing t).0 e

  pub law_lost : (level_by code homeless missing ≡ Lost) ↔ (¬ IsRecoverable code homeless)
  law_lost = elim cases_level [
    | inl (not_held, is) ↦ (λ e. not_held_is not_held, λ n. is)
    | inr (inl (held, none, is)) ↦ (λ e. absurd (let x : Unavailable ≡ Lost = sym is ∙ e in cc), λ n. absurd (n (held_is held)))
    | inr (inr (inl (t, held, margin, some, is))) ↦ (λ e. absurd (let x : AtRisk t ≡ Lost = sym is ∙ e in cc), λ n. absurd (n (held_is held)))
    | inr (inr (inr (t, held, margin, none, is))) ↦ (λ e. absurd (let x : Whole ≡ Lost = sym is ∙ e in cc), λ n. absurd (n (held_is held)))
  ]

  pub law_unavailable : (level_by code homeless missing ≡ Unavailable) ↔ (IsRecoverable code homeless × (¬ IsRecoverable code missing))
  law_unavailable = elim cases_level [
    | inl (not_held, is) ↦ (λ e. absurd (let x : Lost ≡ Unavailable = sym is ∙ e in cc), λ both. absurd (not_held_is not_held both.0))
    | inr (inl (held, none, is)) ↦ (λ e. (held_is held, no_margin_is none), λ both. is)
    | inr (inr (inl (t, held, margin, some, is))) ↦ (λ e. absurd (let x : AtRisk t ≡ Unavailable = sym is ∙ e in cc), λ both. absurd (both.1 (margin_is t margin).recoverable))
    | inr (inr (inr (t, held, margin, none, is))) ↦ (λ e. absurd (let x : Whole ≡ Unavailable = sym is ∙ e in cc), λ both. absurd (both.1 (margin_is t margin).recoverable))
  ]

  pub law_at_risk : (u : ℕ) → (level_by code homeless missing ≡ AtRisk u) ↔ (IsRecoverable code homeless × IsMargin code missing u × SomeMissing code missing)
  law_at_risk u = elim cases_level [
    | inl (not_held, is) ↦ (λ e. absurd (let x : Lost ≡ AtRisk u = sym is ∙ e in cc), λ all. absurd (not_held_is not_held all.0))
    | inr (inl (held, none, is)) ↦ (λ e. absurd (let x : Unavailable ≡ AtRisk u = sym is ∙ e in cc), λ all. absurd (no_margin_is none all.1.recoverable))
    | inr (inr (inl (t, held, margin, some, is))) ↦ (
      λ e. let x : AtRisk t ≡ AtRisk u = sym is ∙ e in let same : t ≡ u = cc in (held_is held, rw (← same) (margin_is t margin), has_some-true code missing some),
      λ all. is ∙ ap AtRisk (IsMargin-unique code missing t u (margin_is t margin) all.1),
    )
    | inr (inr (inr (t, held, margin, none, is))) ↦ (
      λ e. absurd (let x : Whole ≡ AtRisk u = sym is ∙ e in cc),
      λ all. absurd (let x : true ≡ false = sym (has_some-from code missing all.2) ∙ none in cc),
    )
  ]

  -- a stripe with a missing fragment survives at most two more losses
  pub law_few : (u : ℕ) → level_by code homeless missing ≡ AtRisk u → u ≤ 2
  law_few u e =
      let at_risk = (law_at_risk u).0 e in
      margin-two code missing u (ltb-true 0 (size_of code missing) (has_some-from code missing at_risk.2)) at_risk.1

  pub law_whole : (level_by code homeless missing ≡ Whole) ↔ (IsRecoverable code homeless × NoneMissing code missing)
  law_whole = elim cases_level [
    | inl (not_held, is) ↦ (λ e. absurd (let x : Lost ≡ Whole = sym is ∙ e in cc), λ both. absurd (not_held_is not_held both.0))
    | inr (inl (held, none, is)) ↦ (λ e. absurd (let x : Unavailable ≡ Whole = sym is ∙ e in cc), λ both. absurd (no_margin_is none (none_recoverable code missing both.1)))
    | inr (inr (inl (t, held, margin, some, is))) ↦ (
      λ e. absurd (let x : AtRisk t ≡ Whole = sym is ∙ e in cc),
      λ both. absurd (let x : true ≡ false = sym some ∙ has_some-none code missing both.1 in cc),
    )
    | inr (inr (inr (t, held, margin, none, is))) ↦ (λ e. (held_is held, has_some-false code missing none), λ both. is)
  ]

  -- the rank of the level is the rank of the missing fragments, if the homeless fragments are among them
  pub law_rank : ((f : ℕ) → f < fragment_count code → IsTrue (homeless f) → IsTrue (missing f)) → rank_at (level_by code homeless missing) ≡ rank_by code missing
  unfolding rank_by
  law_rank part = elim cases_level [
    | inl (not_held, is) ↦
        let none : margin_of code missing ≡ None = (by_no_margin code missing).1 (λ r. not_held_is not_held (recoverable_part code missing homeless part r)) in
        rw (is, none) refl
    | inr (inl (held, none, is)) ↦ rw (is, none) refl
    | inr (inr (inl (t, held, margin, some, is))) ↦ rw (is, margin) refl
    | inr (inr (inr (t, held, margin, none, is))) ↦ rw (is, margin) (sym (none_margin code missing t (has_some-false code missing none) (margin_is t margin)))
  ]

-- a homeless fragment is missing
pub homeless-missing : (code : Code) (online : NodeNo → Bool) (homes : Homes) (f : ℕ) → IsTrue (homeless_in code homes f) → IsTrue (missing_in code online homes f)
homeless-missing code online homes f bare =
    let parts = and_parts (has_fragment code f) (is_none (homes f)) bare in
    and_from _ _ parts.0 (none_missing (homes f) parts.1)
  where
    none_missing : (home : Option Seat) → is_none home ≡ true → option_map_or (λ seat. not (online seat.node)) home true ≡ true
    none_missing None e = refl
    none_missing (Some seat) e = absurd (cc)
