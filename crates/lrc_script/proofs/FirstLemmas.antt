-- The first bad line.
use Rattle.std.proofs.Common.{◌≡◌, ℕ, zero, suc, ◌+◌, ◌≤◌, ◌↔◌, Option, Some, None, option_map, ◌⊎◌, inl, inr, add-zero, List, [], ◌∷◌, take, All, refl, sym, ap, ◌∙◌, arith}
use Rattle.std.proofs.lemmas.List.Elements.{All-nil}
use Rattle.lrc_script.specs.declared.script.Cause.{Cause}
use Rattle.lrc_script.specs.Scripts.{BadLine, or_else, cause_of, first_bad, IsFirstBadAt}

-- the first bad line of a line with this cause, if it has one, and those behind it
abbrev with_cause : ℕ → Option Cause → Option BadLine → Option BadLine
with_cause number cause later = or_else (option_map (λ k. record { line = number; cause = k }) cause) later

pub All-cons : {X : Type 0} (P : X → Type 0) (x : X) (xs : List X) → P x → All P xs → All P (x ∷ xs)
All-cons P x xs h t zero d within = h
All-cons P x xs h t (suc k) d within = t k d (omega arith)

-- ---- none is bad

with_cause-none : (number : ℕ) (cause : Option Cause) (later : Option BadLine) → with_cause number cause later ≡ None → (cause ≡ None) × (later ≡ None)
with_cause-none number None later e = (refl, e)
with_cause-none number (Some cause) later e = cc

all_good : (number : ℕ) (lines : List (List ℕ)) → first_bad number lines ≡ None → All (λ line. cause_of line ≡ None) lines
all_good number [] none = All-nil (λ line. cause_of line ≡ None)
all_good number (line ∷ lines) none =
    let parts = with_cause-none number (cause_of line) (first_bad (number + 1) lines) none in
    All-cons (λ l. cause_of l ≡ None) line lines parts.0 (all_good (number + 1) lines parts.1)

none_bad : (number : ℕ) (lines : List (List ℕ)) → All (λ line. cause_of line ≡ None) lines → first_bad number lines ≡ None
none_bad number [] good = refl
none_bad number (line ∷ lines) good =
    let here : cause_of line ≡ None = good 0 [] (omega arith) in
    rw here (none_bad (number + 1) lines (λ k d within. good (suc k) d (omega arith)))

pub first_bad-none : (number : ℕ) (lines : List (List ℕ)) → (first_bad number lines ≡ None) ↔ All (λ line. cause_of line ≡ None) lines
first_bad-none number lines = (all_good number lines, none_bad number lines)

-- ---- the first

one_on : (number i : ℕ) → number + suc i ≡ number + 1 + i
one_on number i = omega arith

abbrev the : ℕ → Cause → BadLine
the number cause = record { line = number; cause = cause }

same_some : {X : Type 0} (x y : X) → Some x ≡ Some y → x ≡ y
same_some x y e = cc

with_cause-some : (number : ℕ) (cause : Option Cause) (later : Option BadLine) (bad : BadLine) → with_cause number cause later ≡ Some bad → ((cause ≡ Some bad.cause) × (bad.line ≡ number)) ⊎ ((cause ≡ None) × (later ≡ Some bad))
with_cause-some number None later bad e = inr (refl, e)
with_cause-some number (Some cause) later bad e =
    let same = same_some (the number cause) bad e in
    inl (ap (λ b. Some b.cause) same, sym (ap (λ b. b.line) same))

number_below : (number : ℕ) (lines : List (List ℕ)) (bad : BadLine) → first_bad number lines ≡ Some bad → number ≤ bad.line
number_below number [] bad e = cc
number_below number (line ∷ lines) bad e =
    elim (with_cause-some number (cause_of line) (first_bad (number + 1) lines) bad e) [ inl here ↦ omega (arith, here.1) | inr later ↦ omega (arith, number_below (number + 1) lines bad later.1) ]

found : (number : ℕ) (lines : List (List ℕ)) (i : ℕ) (cause : Cause) → first_bad number lines ≡ Some (the (number + i) cause) → IsFirstBadAt lines i cause
found number [] i cause e = cc
found number (line ∷ lines) zero cause e =
    elim (with_cause-some number (cause_of line) (first_bad (number + 1) lines) (the (number + 0) cause) e) [
      | inl here ↦ record { bad = here.0; good_before = All-nil (λ l. cause_of l ≡ None) }
      | inr later ↦ absurd (omega (arith, number_below (number + 1) lines (the (number + 0) cause) later.1))
    ]
found number (line ∷ lines) (suc i) cause e =
    elim (with_cause-some number (cause_of line) (first_bad (number + 1) lines) (the (number + suc i) cause) e) [
      | inl here ↦ absurd (omega (arith, here.1))
      | inr later ↦
          let behind = found (number + 1) lines i cause (later.1 ∙ ap (λ n. Some (the n cause)) (one_on number i)) in
          record { bad = behind.bad; good_before = All-cons (λ l. cause_of l ≡ None) line (take i lines) later.0 behind.good_before }
    ]

is_found : (number : ℕ) (lines : List (List ℕ)) (i : ℕ) (cause : Cause) → IsFirstBadAt lines i cause → first_bad number lines ≡ Some (the (number + i) cause)
is_found number [] i cause first = absurd first.bad
is_found number (line ∷ lines) zero cause first = let here : cause_of line ≡ Some cause = first.bad in rw here (ap (λ n. Some (the n cause)) (sym (add-zero number)))
is_found number (line ∷ lines) (suc i) cause first =
    let here : cause_of line ≡ None = first.good_before 0 [] (omega arith) in
    let behind = is_found (number + 1) lines i cause (record { bad = first.bad; good_before = λ k d within. first.good_before (suc k) d (omega arith) }) in
    rw here (behind ∙ ap (λ n. Some (the n cause)) (sym (one_on number i)))

pub first_bad-some : (number : ℕ) (lines : List (List ℕ)) (i : ℕ) (cause : Cause) → (first_bad number lines ≡ Some (record { line = number + i; cause = cause })) ↔ IsFirstBadAt lines i cause
first_bad-some number lines i cause = (found number lines i cause, is_found number lines i cause)
