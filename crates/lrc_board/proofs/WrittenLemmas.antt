-- The steps of a log keep its rule, and what they prove of the entries that were written.
use Rattle.std.proofs.Common.{◌≡◌, ℕ, zero, suc, ◌<◌, ◌==◌, Bool, true, false, cond, List, [], ◌∷◌, ◌++◌, length, slice_set, None}
use Rattle.std.proofs.Common.{refl, sym, ap, ◌∙◌, subst, arith, inl}
use Rattle.std.proofs.lemmas.List.{append-nil, append_assoc, length-set}
use Rattle.std.proofs.lemmas.Bool.Decides.{nat_tests}
use mathlib.Core.List.{IsPrefix}
use prog.Atomic.{either}
use Rattle.logbook.specs.Pages.{Cell, cell, Nib, keeps, gives, adds, no_nib, may_write, step, Moves}
use Rattle.lrc_rules.specs.declared.entry.Entry.{Entry}
use Rattle.lrc_board.specs.declared.line.Line.{Line}
use Rattle.lrc_board.specs.Lines.{written, permit_after, IsUnused, AreReturned, IsKept, MakesPermit, FindsUnused, AppendsLine}

abbrev pub shown : List Line → List Line
shown log = []

abbrev pub moved : List Line → List Line → ℕ → Type 0
moved xs ys n = Unit {0}

-- cells

none_returned : (k : ℕ) → (cell [] k).1 ≡ true → ⊥
none_returned k h = cc (h)

returned_inside : (cs : List Cell) (k : ℕ) → (cell cs k).1 ≡ true → k < length cs
returned_inside [] k h = absurd (none_returned k h)
returned_inside (c ∷ cs) zero h = omega arith
returned_inside (c ∷ cs) (suc k) h = let r = returned_inside cs k h in omega arith

set_returned : (cs : List Cell) (j k n : ℕ) → (cell cs k).1 ≡ true → (cell (slice_set cs j (n, true)) k).1 ≡ true
set_returned [] j k n h = absurd (none_returned k h)
set_returned (c ∷ cs) zero zero n h = refl
set_returned (c ∷ cs) zero (suc k) n h = h
set_returned (c ∷ cs) (suc j) zero n h = h
set_returned (c ∷ cs) (suc j) (suc k) n h = set_returned cs j k n h

just_returned : (cs : List Cell) (j n : ℕ) → j < length cs → (cell (slice_set cs j (n, true)) j).1 ≡ true
just_returned [] j n low = absurd (omega arith)
just_returned (c ∷ cs) zero n low = refl
just_returned (c ∷ cs) (suc j) n low = just_returned cs j n (omega arith)

more_returned : (cs : List Cell) (k : ℕ) → (cell cs k).1 ≡ true → (cell (cs ++ (0, false) ∷ []) k).1 ≡ true
more_returned [] k h = absurd (none_returned k h)
more_returned (c ∷ cs) zero h = h
more_returned (c ∷ cs) (suc k) h = more_returned cs k h

-- lines

all_returned : (cs ds : List Cell) → ((k : ℕ) → (cell cs k).1 ≡ true → (cell ds k).1 ≡ true) → (ls : List Line) → AreReturned cs ls → AreReturned ds ls
all_returned cs ds f [] h = tt
all_returned cs ds f (l ∷ ls) h = (f l.by h.0, all_returned cs ds f ls h.1)

both_returned : (cs : List Cell) (xs ys : List Line) → AreReturned cs xs → AreReturned cs ys → AreReturned cs (xs ++ ys)
both_returned cs [] ys h k = k
both_returned cs (x ∷ xs) ys h k = (h.0, both_returned cs xs ys h.1 k)

away_unused : (cs : List Cell) (permit : ℕ) (ls : List Line) → (cell cs permit).1 ≡ false → AreReturned cs ls → IsUnused permit ls
away_unused cs permit [] away h = tt
away_unused cs permit (l ∷ ls) away h = (λ (e : l.by ≡ permit). cc (ap (λ (k : ℕ). (cell cs k).1) e, away, h.0), away_unused cs permit ls away h.1)

unused_rest : (permit : ℕ) (xs ys : List Line) → IsUnused permit (xs ++ ys) → IsUnused permit ys
unused_rest permit [] ys h = h
unused_rest permit (x ∷ xs) ys h = unused_rest permit xs ys h.1

-- steps

pub permit_moves : (v : List Line) (ask : Line)
    → Moves IsKept shown moved 0 (v, (no_nib, None)) (λ n. either (n == 0) 0 n) (MakesPermit (step 0 0 0 ask) (v, (no_nib, None)))
permit_moves v ask cs log kept pre away =
    let n : ℕ = either ((cell cs 0).0 == 0) 0 (cell cs 0).0 in
    let more : List Cell = slice_set cs 0 (n, true) in (
      returned_inside cs 0 kept.word,
      kept.word,
      (
        adds,
        [],
        None,
        tt,
        record {
          word = more_returned more 0 (set_returned cs 0 0 n kept.word);
          permits = both_returned (more ++ (0, false) ∷ []) log []
              (all_returned cs (more ++ (0, false) ∷ []) (λ k h. more_returned more k (set_returned cs 0 k n h)) log kept.permits) tt;
        },
        inl (refl, refl),
        refl,
      ),
    )

pub unused_moves : (v : List Line) (p : Nib) (ask : Line) → p.right ≡ may_write
    → Moves IsKept shown moved 0 (v, (p, None)) (λ n. either (n == 0) 0 n) (FindsUnused (step 0 0 0 ask) (v, (p, None)))
unused_moves v p ask may cs log kept pre away =
    let n : ℕ = either ((cell cs 0).0 == 0) 0 (cell cs 0).0 in
    let all : log ++ [] ≡ log = append-nil log in (
      returned_inside cs 0 kept.word,
      kept.word,
      (
        keeps,
        [],
        None,
        tt,
        record {
          word = set_returned cs 0 0 n kept.word;
          permits = both_returned (slice_set cs 0 (n, true)) log []
              (all_returned cs (slice_set cs 0 (n, true)) (λ k h. set_returned cs 0 k n h) log kept.permits) tt;
        },
        inl (refl, refl),
        (subst (IsUnused p.key) (sym all) (away_unused cs p.key log (away may).1 kept.permits), refl),
      ),
    )

pub append_moves : (v : List Line) (p : Nib) (ask : Line) → p.right ≡ may_write
    → Moves IsKept shown moved 0 (v, (p, None)) (λ n. either (n == 0) 0 n) (AppendsLine (step 0 0 0 ask) (v, (p, None)))
append_moves v p ask may cs log kept pre away =
    let n : ℕ = either ((cell cs 0).0 == 0) 0 (cell cs 0).0 in
    let first : List Cell = slice_set cs 0 (n, true) in
    let then : List Cell = slice_set first p.key (p.value, true) in
    let line : Line = record { entries = ask.entries; by = p.key; next = ask.next } in (
      returned_inside cs 0 kept.word,
      kept.word,
      (
        gives,
        line ∷ [],
        None,
        may,
        record {
          word = set_returned first p.key 0 p.value (set_returned cs 0 0 n kept.word);
          permits = both_returned then log (line ∷ [])
              (all_returned cs then (λ k h. set_returned first p.key k p.value (set_returned cs 0 k n h)) log kept.permits)
              (just_returned first p.key p.value (subst (λ (m : ℕ). p.key < m) (sym (length-set cs 0 (n, true))) (away may).0), tt);
        },
        inl (refl, refl),
        (log, pre, away_unused cs p.key log (away may).1 kept.permits, refl),
      ),
    )

-- entries

pub written_append : (permit : ℕ) (xs ys : List Line) → written permit (xs ++ ys) ≡ written permit xs ++ written (permit_after permit xs) ys
written_append permit [] ys = refl
written_append permit (l ∷ ls) ys = by_test (l.by == permit) l permit ls ys (written_append l.next ls ys) (written_append permit ls ys) where
  by_test : (b : Bool) (l : Line) (permit : ℕ) (ls ys : List Line)
      → written l.next (ls ++ ys) ≡ written l.next ls ++ written (permit_after l.next ls) ys
      → written permit (ls ++ ys) ≡ written permit ls ++ written (permit_after permit ls) ys
      → cond b (l.entries ++ written l.next (ls ++ ys)) (written permit (ls ++ ys))
      ≡ cond b (l.entries ++ written l.next ls) (written permit ls) ++ written (cond b (permit_after l.next ls) (permit_after permit ls)) ys
  by_test true l permit ls ys this that = ap (λ (es : List Entry). l.entries ++ es) this ∙ sym (append_assoc l.entries (written l.next ls) (written (permit_after l.next ls) ys))
  by_test false l permit ls ys this that = that

pub permit_append : (permit : ℕ) (xs ys : List Line) → permit_after permit (xs ++ ys) ≡ permit_after (permit_after permit xs) ys
permit_append permit [] ys = refl
permit_append permit (l ∷ ls) ys = by_test (l.by == permit) l permit ls ys (permit_append l.next ls ys) (permit_append permit ls ys) where
  by_test : (b : Bool) (l : Line) (permit : ℕ) (ls ys : List Line)
      → permit_after l.next (ls ++ ys) ≡ permit_after (permit_after l.next ls) ys → permit_after permit (ls ++ ys) ≡ permit_after (permit_after permit ls) ys
      → cond b (permit_after l.next (ls ++ ys)) (permit_after permit (ls ++ ys)) ≡ permit_after (cond b (permit_after l.next ls) (permit_after permit ls)) ys
  by_test true l permit ls ys this that = this
  by_test false l permit ls ys this that = that

unused_permit : (permit : ℕ) (ls : List Line) → IsUnused permit ls → (written permit ls ≡ []) × (permit_after permit ls ≡ permit)
unused_permit permit [] h = (refl, refl)
unused_permit permit (l ∷ ls) h = let no : (l.by == permit) ≡ false = grind (arith, nat_tests, h.0) in let rest = unused_permit permit ls h.1 in rw no rest

-- the entries of a prefix of the lines are a prefix of the entries
pub written_prefix : (permit : ℕ) (xs ys : List Line) → IsPrefix xs ys → IsPrefix (written permit xs) (written permit ys)
written_prefix permit xs ys pre = (written (permit_after permit xs) pre.0, sym (written_append permit xs pre.0) ∙ ap (written permit) pre.1)

-- lines that the next permit did not write add no entry
pub passed : (start permit : ℕ) (seen log : List Line) → permit_after start seen ≡ permit → IsPrefix seen log → IsUnused permit log
    → (written start log ≡ written start seen) × (permit_after start log ≡ permit)
passed start permit seen log at pre unused =
    let none = unused_permit permit pre.0 (unused_rest permit seen pre.0 (subst (IsUnused permit) (sym pre.1) unused)) in (
      ap (written start) (sym pre.1) ∙ (written_append start seen pre.0
          ∙ (ap (λ (k : ℕ). written start seen ++ written k pre.0) at
          ∙ (ap (λ (es : List Entry). written start seen ++ es) none.0 ∙ append-nil (written start seen)))),
      ap (permit_after start) (sym pre.1) ∙ (permit_append start seen pre.0 ∙ (ap (λ (k : ℕ). permit_after k pre.0) at ∙ none.1)),
    )

-- the entries of any prefix of the log are a prefix of those that its writer saw
pub covered : (start permit : ℕ) (prefix seen log : List Line) → permit_after start prefix ≡ permit → IsPrefix prefix log → IsPrefix seen log
    → IsUnused permit log → IsPrefix (written start seen) (written start prefix)
covered start permit prefix seen log at own other unused =
    subst (IsPrefix (written start seen)) (passed start permit prefix log at own unused).0 (written_prefix start seen log other)

one_line : (permit : ℕ) (l : Line) → l.by ≡ permit → (written permit (l ∷ []) ≡ l.entries) × (permit_after permit (l ∷ []) ≡ l.next)
one_line permit l is = let yes : (l.by == permit) ≡ true = grind (arith, nat_tests) in rw yes (append-nil l.entries, refl)

-- a line that the permit writes adds its entries
added : (start permit : ℕ) (seen log new : List Line) (l : Line) → permit_after start seen ≡ permit → IsPrefix seen log → IsUnused permit log
    → l.by ≡ permit → new ≡ log ++ l ∷ [] → (permit_after start new ≡ l.next) × (written start new ≡ written start seen ++ l.entries)
added start permit seen log new l at pre unused by is =
    let before = passed start permit seen log at pre unused in let one = one_line permit l by in (
      ap (permit_after start) is ∙ (permit_append start log (l ∷ []) ∙ (ap (λ (k : ℕ). permit_after k (l ∷ [])) before.1 ∙ one.1)),
      ap (written start) is ∙ (written_append start log (l ∷ [])
          ∙ (ap (λ (k : ℕ). written start log ++ written k (l ∷ [])) before.1 ∙ (λ i. before.0 i ++ one.0 i))),
    )

-- the same for the line that a step asks for
pub asked_added : (start permit : ℕ) (seen log new : List Line) (ask : Line) (entries : List Entry) (next : ℕ) → permit_after start seen ≡ permit → IsPrefix seen log
    → IsUnused permit log → ask ≡ record { entries = entries; by = 0; next = next } → new ≡ log ++ record { entries = ask.entries; by = permit; next = ask.next } ∷ []
    → (permit_after start new ≡ next) × (written start new ≡ written start seen ++ entries)
asked_added start permit seen log new ask entries next at pre unused asked is =
    added start permit seen log new (record { entries = entries; by = permit; next = next }) at pre unused refl
    (is ∙ (λ k. log ++ record { entries = (asked k).entries; by = permit; next = (asked k).next } ∷ []))
