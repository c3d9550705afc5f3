-- The pieces of a text that is cut.
use Rattle.std.proofs.Common.{inl, inr, ◌≡◌, ◌≢◌, ℕ, suc, ◌+◌, ◌-◌, ◌<◌, ◌≤◌, Bool, true, false, nat_eq, Option, Some, None, List, [], ◌∷◌, ◌++◌, length, get_or, take, drop, replicate, refl, sym, ap, ◌∙◌, arith, length-take}
use Rattle.std.specs.Borrow.{Bor}
use Rattle.std.specs.List.{All, slice_split}
use Rattle.std.proofs.lemmas.Bool.{cases_lt}
use Rattle.std.proofs.lemmas.Bool.Decides.{nat_tests}
use Rattle.std.proofs.lemmas.List.{get_or-take, get_or-drop, drop_more, length-replicate, get_or-replicate}
use Rattle.std.proofs.lemmas.List.Splits.{slice_split_none, slice_split_at}
use Rattle.memchr.specs.Find.{Passes, Nowhere}
use Rattle.lrc_script.specs.Cuts.{IsCut}

differs : (b separator : ℕ) → b ≢ separator → nat_eq b separator ≡ false
differs b separator ne = grind (arith, nat_tests)

same : (b : ℕ) → nat_eq b b ≡ true
same b = grind (arith, nat_tests)

pub has_none : (separator : ℕ) (first : List ℕ) → All (λ b. b ≢ separator) first → All (λ b. nat_eq b separator ≡ false) first
has_none separator first none = λ k d within. differs (get_or first k d) separator (none k d within)

-- the pieces of what stands behind a cut, if anything does
abbrev pub pieces_behind : ℕ → Option (Bor (List ℕ)) → List (List ℕ)
pieces_behind separator None = []
pieces_behind separator (Some rest) = slice_split (λ b. nat_eq b separator) rest.now

pub slice_split-cut : (separator : ℕ) (text first : List ℕ) (rest : Option (Bor (List ℕ))) → IsCut separator text first rest → slice_split (λ b. nat_eq b separator) text ≡ first ∷ pieces_behind separator rest
slice_split-cut separator text first None cut = ap (slice_split (λ b. nat_eq b separator)) cut.1 ∙ slice_split_none (λ b. nat_eq b separator) first (has_none separator first cut.0)
slice_split-cut separator text first (Some rest) cut =
    ap (slice_split (λ b. nat_eq b separator)) cut.1 ∙ slice_split_at (λ b. nat_eq b separator) first separator rest.now (has_none separator first cut.0) (same separator)

-- a text has one cut at its first separator
pub cut_once : (separator : ℕ) (first other rest more : List ℕ) → All (λ b. b ≢ separator) first → All (λ b. b ≢ separator) other
    → first ++ separator ∷ rest ≡ other ++ separator ∷ more → (first ≡ other) × (rest ≡ more)
cut_once separator [] [] rest more none none' is = (refl, cc)
cut_once separator [] (b ∷ other) rest more none none' is = let head : b ≡ separator = cc in absurd (none' 0 b (omega arith) head)
cut_once separator (a ∷ first) [] rest more none none' is = let head : a ≡ separator = cc in absurd (none 0 a (omega arith) head)
cut_once separator (a ∷ first) (b ∷ other) rest more none none' is =
    let head : a ≡ b = cc in
    let tail : first ++ separator ∷ rest ≡ other ++ separator ∷ more = cc in
    let parts = cut_once separator first other rest more (λ k d within. none (suc k) d (omega arith)) (λ k d within. none' (suc k) d (omega arith)) tail in
    (ap (λ x. x ∷ first) head ∙ ap (λ xs. b ∷ xs) parts.0, parts.1)

-- ---- a text that is searched in two parts

module _ (test : ℕ → Bool) (text : List ℕ) (short : ℕ) where
  pub passes_behind : (k : ℕ) → Passes test (drop short text) k → Passes test text (short + k)
  passes_behind k passes = ap test (sym (get_or-drop short text k 0)) ∙ passes

  -- nowhere in the first part, and nowhere in the second before this place
  pub nowhere_behind : (n : ℕ) → short ≤ length text → Nowhere (Passes test (take short text)) 0 (length (take short text))
      → Nowhere (Passes test (drop short text)) 0 n → Nowhere (Passes test text) 0 (short + n)
  nowhere_behind n within near far k low high passes =
      elim (cases_lt k short) [
        | inl before ↦ near k (omega arith) (omega (arith, length-take short text, before, within)) (ap test (get_or-take short text k 0 before) ∙ passes)
        | inr past ↦
            let whole : short + (k - short) ≡ k = omega (arith, past) in
            let there = ap test (get_or-drop short text (k - short) 0 ∙ ap (λ i. get_or text i 0) whole) in
            far (k - short) (omega arith) (omega (arith, past, high)) (there ∙ passes)
      ]

-- ---- a line with ends of lines after it

pub drop_ends : (n : ℕ) → n < 27 → drop {A = ℕ} n (replicate 27 10) ≡ 10 ∷ drop (n + 1) (replicate 27 10)
drop_ends n within =
    drop_more {X = ℕ} (replicate 27 10) n 0 (omega (arith, within, length-replicate {A = ℕ} 27 10)) ∙ ap (λ b. b ∷ drop (n + 1) (replicate 27 10)) (get_or-replicate 27 n 10 0 within)
