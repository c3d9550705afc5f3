-- The losses and the rank of a stripe, by the words of its block.
use Rattle.std.proofs.Common.{◌≡◌, ℕ, ◌+◌, ◌-◌, ◌^◌, ◌<◌, ◌≤◌, Bool, true, false, not, ◌&&◌, ◌||◌, nat_eq, nat_lt, nat_le, cond, bit_and, bit_or, Some, None, unwrap_or, arith, refl, sym, ap, ◌∙◌, subst, inl, inr}
use Rattle.std.specs.Int.{bit_at}
use Rattle.std.proofs.lemmas.Bool.{cases_lt, lt-ltb}
use Rattle.lrc_bits.proofs.UnionLemmas.{or_flag, and_flag, and_not_flag}
use Rattle.lrc_code.specs.declared.codes.Code.{Code}
use Rattle.lrc_code.specs.declared.codes.Code.TheVariants.{Wide, Narrow}
use Rattle.lrc_code.specs.declared.codes.Class.TheVariants.{A, B, G}
use Rattle.lrc_code.specs.Losses.{FragmentSet, losses_in, excess}
use Rattle.lrc_terms.specs.Levels.{rank_by}
use Rattle.lrc_ranks.specs.Counts.{rank_by_excess}

-- ---- words

-- what a stripe of the code Wide misses
pub wide-bit : (word narrow k : ℕ) (misses is_narrow : Bool) → narrow < 2 ^ 64 → k < 64 → nat_eq (bit_at word k) 1 ≡ misses → nat_eq (bit_at narrow k) 1 ≡ is_narrow
    → nat_eq (bit_at (bit_and word (2 ^ 64 - 1 - narrow)) k) 1 ≡ cond is_narrow false misses
wide-bit word narrow k misses is_narrow fits small e f =
    and_not_flag word narrow k fits small ∙ (ap (λ b. b && not (nat_eq (bit_at narrow k) 1)) e ∙ (ap (λ b. misses && not b) f ∙ by misses is_narrow)) where
      by : (m n : Bool) → (m && not n) ≡ cond n false m
      by true true = refl
      by true false = refl
      by false true = refl
      by false false = refl

-- what a stripe misses, by its code
pub either-bit : (wide word narrow k : ℕ) (first other is_narrow : Bool) → nat_eq (bit_at wide k) 1 ≡ cond is_narrow false first → nat_eq (bit_at word k) 1 ≡ other
    → nat_eq (bit_at narrow k) 1 ≡ is_narrow → nat_eq (bit_at (bit_or wide (bit_and word narrow)) k) 1 ≡ cond is_narrow other first
either-bit wide word narrow k first other is_narrow e f g =
    or_flag wide (bit_and word narrow) k
    ∙ (ap (λ b. b || nat_eq (bit_at (bit_and word narrow) k) 1) e
    ∙ (ap (λ b. cond is_narrow false first || b) (and_flag word narrow k ∙ (ap (λ b. b && nat_eq (bit_at narrow k) 1) f ∙ ap (λ b. other && b) g))
    ∙ by is_narrow first other)) where
      by : (n m o : Bool) → (cond n false m || (o && n)) ≡ cond n o m
      by true m true = refl
      by true m false = refl
      by false true o = refl
      by false false true = refl
      by false false false = refl

-- ---- the losses of a class

seven-same : (a b c d e f g s t u v w x y : ℕ) → a ≡ s → b ≡ t → c ≡ u → d ≡ v → e ≡ w → f ≡ x → g ≡ y → 0 + a + b + c + d + e + f + g ≡ 0 + s + t + u + v + w + x + y
seven-same a b c d e f g s t u v w x y p q r i j k l = omega (arith, p, q, r, i, j, k, l)

four-left : (a b c d : ℕ) → 0 + a + b + c + d + 0 + 0 + 0 ≡ 0 + a + b + c + d
four-left a b c d = omega arith

four-moved : (a b c d : ℕ) → 0 + a + d + b + c + 0 + 0 + 0 ≡ 0 + a + b + c + d
four-moved a b c d = omega arith

module _ (m : FragmentSet) (a b c d e f g : ℕ) where
  pub losses-a : (narrow : Bool) → a ≡ cond (m 0) 1 0 → b ≡ cond (m 1) 1 0 → c ≡ cond (m 2) 1 0 → d ≡ cond (cond narrow (m 6) (m 3)) 1 0 → e ≡ cond (cond narrow false (m 4)) 1 0
      → f ≡ cond (cond narrow false (m 5)) 1 0 → g ≡ cond (cond narrow false (m 12)) 1 0 → 0 + a + b + c + d + e + f + g ≡ losses_in (cond narrow Narrow Wide) A m
  losses-a true p q r s t u v = seven-same a b c d e f g (cond (m 0) 1 0) (cond (m 1) 1 0) (cond (m 2) 1 0) (cond (m 6) 1 0) 0 0 0 p q r s t u v
      ∙ four-left (cond (m 0) 1 0) (cond (m 1) 1 0) (cond (m 2) 1 0) (cond (m 6) 1 0)
  losses-a false p q r s t u v = seven-same a b c d e f g (cond (m 0) 1 0) (cond (m 1) 1 0) (cond (m 2) 1 0) (cond (m 3) 1 0) (cond (m 4) 1 0) (cond (m 5) 1 0) (cond (m 12) 1 0) p q r s t u v

  pub losses-b : (narrow : Bool) → a ≡ cond (cond narrow (m 3) (m 6)) 1 0 → b ≡ cond (m 7) 1 0 → c ≡ cond (cond narrow (m 4) (m 8)) 1 0 → d ≡ cond (cond narrow (m 5) (m 9)) 1 0
      → e ≡ cond (cond narrow false (m 10)) 1 0 → f ≡ cond (cond narrow false (m 11)) 1 0 → g ≡ cond (cond narrow false (m 13)) 1 0
      → 0 + a + b + c + d + e + f + g ≡ losses_in (cond narrow Narrow Wide) B m
  losses-b true p q r s t u v = seven-same a b c d e f g (cond (m 3) 1 0) (cond (m 7) 1 0) (cond (m 4) 1 0) (cond (m 5) 1 0) 0 0 0 p q r s t u v
      ∙ four-moved (cond (m 3) 1 0) (cond (m 4) 1 0) (cond (m 5) 1 0) (cond (m 7) 1 0)
  losses-b false p q r s t u v = seven-same a b c d e f g (cond (m 6) 1 0) (cond (m 7) 1 0) (cond (m 8) 1 0) (cond (m 9) 1 0) (cond (m 10) 1 0) (cond (m 11) 1 0) (cond (m 13) 1 0) p q r s t u v

  pub losses-g : (narrow : Bool) → a ≡ cond (cond narrow (m 8) (m 14)) 1 0 → b ≡ cond (cond narrow (m 9) (m 15)) 1 0 → a + b ≡ losses_in (cond narrow Narrow Wide) G m
  losses-g true p q = two-same a b (cond (m 8) 1 0) (cond (m 9) 1 0) p q where
    two-same : (a b s t : ℕ) → a ≡ s → b ≡ t → a + b ≡ 0 + s + t
    two-same a b s t p q = omega (arith, p, q)
  losses-g false p q = two-same a b (cond (m 14) 1 0) (cond (m 15) 1 0) p q where
    two-same : (a b s t : ℕ) → a ≡ s → b ≡ t → a + b ≡ 0 + s + t
    two-same a b s t p q = omega (arith, p, q)

-- ---- the rank

-- the rank by the losses of the classes
ranked : (a b g e : ℕ) → e ≡ (a - 1) + (b - 1) + g → rank_by_excess (nat_lt 0 a || nat_lt 0 b) e
    ≡ unwrap_or (cond (nat_le e 2) (Some (cond (nat_lt 0 (a + b)) (2 - e) (3 - g))) None) 4
ranked a b g e is = ap (λ l. rank_by_excess l e) touched ∙ (left (nat_le e 2) (nat_lt 0 (a + b)) fallback) where
  touched : (nat_lt 0 a || nat_lt 0 b) ≡ nat_lt 0 (a + b)
  touched = elim (cases_lt 0 a) [
    | inl p ↦ rw (lt-ltb 0 a p, lt-ltb 0 (a + b) (omega (arith, p))) refl
    | inr p ↦ let none : a ≡ 0 = omega (arith, p) in let same : b ≡ 0 + b = omega arith in rw none (ap (λ x. nat_lt 0 x) same)
  ]

  fallback : nat_lt 0 (a + b) ≡ false → 3 - e ≡ 3 - g
  fallback none = elim (cases_lt 0 (a + b)) [
    | inl p ↦ absurd (let clash : true ≡ false = sym (lt-ltb 0 (a + b) p) ∙ none in cc)
    | inr p ↦ omega (arith, p, is)
  ]

  left : (t l : Bool) → (l ≡ false → 3 - e ≡ 3 - g) → cond t (cond l (2 - e) (3 - e)) 4 ≡ unwrap_or (cond t (Some (cond l (2 - e) (3 - g))) None) 4
  left true true same = refl
  left true false same = same refl
  left false l same = refl

pub rank-code : (code : Code) (m : FragmentSet) → rank_by_excess (nat_lt 0 (losses_in code A m) || nat_lt 0 (losses_in code B m)) (excess code m) ≡ rank_by code m
unfolding rank_by
rank-code code m = ranked (losses_in code A m) (losses_in code B m) (losses_in code G m) (excess code m) refl

-- no rank is above 4
pub rank-few : (code : Code) (m : FragmentSet) → rank_by code m ≤ 4
rank-few code m = subst (λ n. n ≤ 4) (rank-code code m) (by (nat_lt 0 (losses_in code A m) || nat_lt 0 (losses_in code B m)) (nat_le (excess code m) 2)) where
  by : (l t : Bool) → cond t (cond l (2 - excess code m) (3 - excess code m)) 4 ≤ 4
  by true true = omega arith
  by false true = omega arith
  by l false = omega arith

-- the same by numbers that are those of the classes
pub rank-known : (code : Code) (m : FragmentSet) (x y : ℕ) (l w has_work : Bool) (rank : ℕ) → x ≡ losses_in code A m → y ≡ losses_in code B m
    → l ≡ (nat_lt 0 x || nat_lt 0 y) → w ≡ has_work
    → (w && nat_eq (rank_by_excess l ((x - 1) + (y - 1) + losses_in code G m)) rank) ≡ (has_work && nat_eq (rank_by code m) rank)
rank-known code m x y l w has_work rank p q r e =
    ap (λ b. b && nat_eq (rank_by_excess l ((x - 1) + (y - 1) + losses_in code G m)) rank) e
    ∙ ap (λ n. has_work && nat_eq n rank) (ap (λ b. rank_by_excess b ((x - 1) + (y - 1) + losses_in code G m)) r
    ∙ (ap (λ n. rank_by_excess (nat_lt 0 n || nat_lt 0 y) ((n - 1) + (y - 1) + losses_in code G m)) p
    ∙ (ap (λ n. rank_by_excess (nat_lt 0 (losses_in code A m) || nat_lt 0 n) ((losses_in code A m - 1) + (n - 1) + losses_in code G m)) q ∙ rank-code code m)))
