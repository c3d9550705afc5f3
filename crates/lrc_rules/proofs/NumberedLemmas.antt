-- Entries of a session at ascending positions in a history: if they are as many as the session made, they are all of
-- them.
use Rattle.std.proofs.Common.{[], ◌≡◌, inl, inr, ℕ, suc, ◌+◌, ◌-◌, ◌≤◌, true, List, ◌∷◌, length, filter, slice_get, Some, sym, ap, ◌∙◌, subst, arith}
use Rattle.std.proofs.Math.Nat.{eq-or-lt_of_le}
use Rattle.std.proofs.lemmas.Bool.{cases_Bool}
use Rattle.std.proofs.lemmas.List.{nil_from_length}
use Rattle.lrc_rules.specs.declared.entry.Entry.{Entry}
use Rattle.lrc_rules.specs.Sessions.{NumberedEntry, numbered_from, is_of, AreRising}

abbrev numbered : ℕ → Entry → NumberedEntry
numbered place e = record { place = place; entry = e }

module _ (session : ℕ) where
  -- the session's entries in a history whose first entry has this position
  abbrev made_from : ℕ → List Entry → List NumberedEntry
  made_from first history = filter (λ n. is_of session n.entry) (numbered_from first history)

  -- positions after the first entry are positions in the rest
  above_first : (first least : ℕ) (e : Entry) (h : List Entry) (ns : List NumberedEntry) → first + 1 ≤ least → AreRising session first (e ∷ h) least ns
      → AreRising session (first + 1) h least ns
  above_first first least e h [] above rising = tt
  above_first first least e h (n ∷ ns) above rising =
      let less : n.place - first ≡ suc (n.place - (first + 1)) = omega (arith, above, rising.0) in
      let there : slice_get h (n.place - (first + 1)) ≡ Some n.entry = subst (λ k. slice_get (e ∷ h) k ≡ Some n.entry) less rising.1 in
      (rising.0, there, rising.2, above_first first (n.place + 1) e h ns (omega (arith, above, rising.0)) rising.3)

  -- the session made at least as many
  no_more : (first least : ℕ) (h : List Entry) (ns : List NumberedEntry) → first ≤ least → AreRising session first h least ns → length ns ≤ length (made_from first h)
  no_more first least h [] within rising = omega arith
  no_more first least [] (n ∷ ns) within rising = absurd (cc)
  no_more first least (e ∷ h) (n ∷ ns) within rising = let low : first ≤ n.place = omega (arith, within, rising.0) in elim (eq-or-lt_of_le low) [
    | inl here ↦
        let none : n.place - first ≡ 0 = omega (arith, here) in
        let same : Some e ≡ Some n.entry = subst (λ k. slice_get (e ∷ h) k ≡ Some n.entry) none rising.1 in
        let same : e ≡ n.entry = cc in
        let own : is_of session e ≡ true = ap (is_of session) same ∙ rising.2 in
        let rest = no_more (first + 1) (n.place + 1) h ns (omega (arith, here)) (above_first first (n.place + 1) e h ns (omega (arith, here)) rising.3) in
        rw own (omega (arith, rest))
    | inr later ↦
        let rest = no_more (first + 1) (first + 1) h (n ∷ ns) (omega arith)
        (above_first first (first + 1) e h (n ∷ ns) (omega arith) (omega (arith, later), rising.1, rising.2, rising.3)) in
        elim (cases_Bool (is_of session e)) [
          | inl own ↦ rw own (omega (arith, rest))
          | inr other ↦ rw other rest
        ]
  ]

  -- if they are as many, they are all
  pub all_made : (first least : ℕ) (h : List Entry) (ns : List NumberedEntry) → first ≤ least → AreRising session first h least ns → length ns ≡ length (made_from first h)
      → ns ≡ made_from first h
  all_made first least h [] within rising many = sym (nil_from_length (made_from first h) (sym many))
  all_made first least [] (n ∷ ns) within rising many = absurd (cc)
  all_made first least (e ∷ h) (n ∷ ns) within rising many = let low : first ≤ n.place = omega (arith, within, rising.0) in elim (eq-or-lt_of_le low) [
    | inl here ↦
        let none : n.place - first ≡ 0 = omega (arith, here) in
        let same : Some e ≡ Some n.entry = subst (λ k. slice_get (e ∷ h) k ≡ Some n.entry) none rising.1 in
        let same : e ≡ n.entry = cc in
        let own : is_of session e ≡ true = ap (is_of session) same ∙ rising.2 in
        let fewer : length ns ≡ length (made_from (first + 1) h) = let m : suc (length ns) ≡ suc (length (made_from (first + 1) h)) = rw own at many in omega (arith, m) in
        let rest = all_made (first + 1) (n.place + 1) h ns (omega (arith, here)) (above_first first (n.place + 1) e h ns (omega (arith, here)) rising.3) fewer in
        let head : n ≡ numbered first e = ap (λ p. numbered p n.entry) (sym here) ∙ ap (numbered first) (sym same) in
        rw own (ap (λ x. x ∷ ns) head ∙ ap (λ xs. numbered first e ∷ xs) rest)
    | inr later ↦
        let above = above_first first (first + 1) e h (n ∷ ns) (omega arith) (omega (arith, later), rising.1, rising.2, rising.3) in
        let rest = no_more (first + 1) (first + 1) h (n ∷ ns) (omega arith) above in
        elim (cases_Bool (is_of session e)) [
          | inl own ↦ let m : suc (length ns) ≡ suc (length (made_from (first + 1) h)) = rw own at many in absurd (omega (arith, m, rest))
          | inr other ↦ rw other (all_made (first + 1) (first + 1) h (n ∷ ns) (omega arith) above (rw other at many))
        ]
  ]
