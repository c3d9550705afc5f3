-- The exchange that adds a call keeps the rule.
use Rattle.std.proofs.Common.{◌≡◌, ℕ, ◌+◌, ◌<◌, ◌≤◌, ◌==◌, Bool, true, false, List, [], ◌∷◌, ◌++◌, length, refl, ap, sym, subst, arith, inl, length-append, None}
use Rattle.std.proofs.lemmas.List.{append-nil}
use Rattle.std.proofs.lemmas.Bool.Decides.{nat_tests}
use mathlib.Core.List.{IsPrefix}
use prog.Atomic.{either}
use Rattle.logbook.specs.Pages.{Cell, cell, keeps, no_nib, step, Moves, Goes}
use Rattle.lrc_feed.specs.declared.feed.FedCall.{FedCall}
use Rattle.lrc_feed.specs.Rules.{IsCounted, Appends}
use Rattle.lrc_feed.proofs.Prefixes.{prefix_whole, prefix_length}

abbrev pub shown : List FedCall → List FedCall
shown log = []

abbrev pub moved : List FedCall → List FedCall → ℕ → Type 0
moved xs ys n = Unit {0}

adds_goes : (log v : List FedCall) (e : FedCall) (old : ℕ) → old ≤ length v → IsPrefix v log
    → (b : Bool) → (length log == old) ≡ b
    → Goes IsCounted shown moved 0 (v, (no_nib, None)) (λ n. either (n == old) (old + 1) n) (Appends (step 0 old (old + 1) e) (v, (no_nib, None))) ((length log, true) ∷ (0, true) ∷ []) log
adds_goes log v e old known pre true is =
    let here : length log ≡ old = grind (arith, nat_tests) in
    let short : length v ≤ length log = prefix_length v log pre in
    let same : v ≡ log = prefix_whole v log pre (omega arith) in
    let n : either (length log == old) (old + 1) (length log) ≡ length (log ++ e ∷ []) = rw is (omega (arith, length-append log (e ∷ []))) in (
      keeps,
      e ∷ [],
      None,
      tt,
      ap (λ (k : ℕ). (k, true) ∷ (0, true) ∷ []) n,
      inl (refl, refl),
      rw is (omega (arith, ap length same), ap (λ w. w ++ e ∷ []) (sym same)),
    )
adds_goes log v e old known pre false is =
    let all : log ++ [] ≡ log = append-nil log in
    let other : ¬ (length log ≡ old) = grind (arith, nat_tests, is) in
    let short : length v ≤ length log = prefix_length v log pre in
    let n : either (length log == old) (old + 1) (length log) ≡ length (log ++ []) = rw is (ap length (sym all)) in (
      keeps,
      [],
      None,
      tt,
      ap (λ (k : ℕ). (k, true) ∷ (0, true) ∷ []) n,
      inl (refl, refl),
      rw is (omega (arith, ap length all, other)),
    )

-- whatever the feed is, the exchange adds the call to all that was seen, or finds that there are more calls
pub adds_moves : (v : List FedCall) (e : FedCall) (old : ℕ) → old ≤ length v
    → Moves IsCounted shown moved 0 (v, (no_nib, None)) (λ n. either (n == old) (old + 1) n) (Appends (step 0 old (old + 1) e) (v, (no_nib, None)))
adds_moves v e old known cs log kept pre away =
    let P : List Cell → Type 0 = λ c. (0 < length c) × ((cell c 0).1 ≡ true) × Goes IsCounted shown moved 0 (v, (no_nib, None)) (λ n. either (n == old) (old + 1) n) (Appends (step 0 old (old + 1) e) (v, (no_nib, None))) c log in
    subst P (sym kept) (omega arith, refl, adds_goes log v e old known pre (length log == old) refl)
