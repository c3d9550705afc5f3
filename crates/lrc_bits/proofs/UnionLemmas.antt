-- Unions, intersections and differences of words, and empty sets.
use Rattle.std.proofs.Common.{bit_and, bit_or, ◌≡◌, ℕ, zero, suc, ◌+◌, ◌-◌, ◌*◌, ◌/◌, ◌%◌, ◌^◌, ◌<◌, ◌≤◌, Bool, true, false, not, ◌||◌, ◌&&◌, eqb, List, length, get_or, arith, refl, sym, ap, ◌∙◌, inl, inr, w64}
use Rattle.std.proofs.lemmas.Bool.{cases_eq, cases_lt, eq-eqb, ne_eqb}
use Rattle.std.proofs.lemmas.List.{get_or_past}
use Rattle.std.proofs.lemmas.Nat.Bits.{bit_at-zero, bit_at_and, bit_at_or, bit_at_not, bit_at-lt, same_from_bits_below}
use Rattle.std.proofs.lemmas.Nat.{or_lt}
use Rattle.std.specs.Int.{bit_at}
use Rattle.lrc_bits.specs.Flags.{flags}
use Rattle.lrc_bits.proofs.FlagLemmas.{at_word, read}

-- a flag of the union of two words is a flag of one of them
pub or_flag : (a b t : ℕ) → eqb (bit_at (bit_or a b) t) 1 ≡ (eqb (bit_at a t) 1 || eqb (bit_at b t) 1)
or_flag a b t =
    let both = bit_at_or a b t in
    let p = bit_at-lt a t in
    let q = bit_at-lt b t in
    elim (cases_eq (bit_at a t) 1) [
      | inl one ↦ let all : bit_at (bit_or a b) t ≡ 1 = omega (arith, both, one, q) in rw (eq-eqb _ 1 all, eq-eqb _ 1 one) refl
      | inr none ↦
          let zero : bit_at a t ≡ 0 = omega (arith, none, p) in
          let other : bit_at (bit_or a b) t ≡ bit_at b t = omega (arith, both, zero, q) in
          rw (other, zero) refl
    ]

-- a truth value and itself
pub and-same : (b : Bool) → (b && b) ≡ b
and-same true = refl
and-same false = refl

-- a flag of the intersection of two words is a flag of both
pub and_flag : (a b t : ℕ) → eqb (bit_at (bit_and a b) t) 1 ≡ (eqb (bit_at a t) 1 && eqb (bit_at b t) 1)
and_flag a b t =
    let both = bit_at_and a b t in
    let p = bit_at-lt a t in
    let q = bit_at-lt b t in
    elim (cases_eq (bit_at a t) 1) [
      | inl one ↦ let other : bit_at (bit_and a b) t ≡ bit_at b t = omega (arith, both, one, q) in rw (other, eq-eqb _ 1 one) refl
      | inr none ↦
          let zero : bit_at (bit_and a b) t ≡ 0 = omega (arith, both, none, p) in
          rw (zero, ne_eqb (bit_at a t) 1 none) refl
    ]

-- words to which the intersections of two others are added have their own numbers and those that both others have
pub flags-common : (new old ones others : List ℕ) (xs ys us vs : List Bool) → flags new ≡ xs → flags old ≡ ys → flags ones ≡ us → flags others ≡ vs
    → length new ≡ length old → length ones ≡ length old
    → ((j : ℕ) → j < length old → get_or new j 0 ≡ bit_or (get_or old j 0) (bit_and (get_or ones j 0) (get_or others j 0))) → (k : ℕ)
    → get_or xs k false ≡ (get_or ys k false || (get_or us k false && get_or vs k false))
flags-common new old ones others xs ys us vs a b c d same also each k =
    rw (read new xs k a, read old ys k b, read ones us k c, read others vs k d) (elim (cases_lt (k / 64) (length old)) [
      | inl within ↦
          rw (each (k / 64) within) (or_flag (get_or old (k / 64) 0) (bit_and (get_or ones (k / 64) 0) (get_or others (k / 64) 0)) (k % 64)
          ∙ ap (λ x. eqb (bit_at (get_or old (k / 64) 0) (k % 64)) 1 || x) (and_flag (get_or ones (k / 64) 0) (get_or others (k / 64) 0) (k % 64)))
      | inr past ↦
          let p : length new ≤ k / 64 = omega (arith, past, same) in
          let q : length ones ≤ k / 64 = omega (arith, past, also) in
          rw (get_or_past new (k / 64) 0 p, get_or_past old (k / 64) 0 past, get_or_past ones (k / 64) 0 q, bit_at-zero (k % 64)) refl
    ])

-- a flag of the numbers that a word lacks
pub not_flag : (b t : ℕ) → b < 2 ^ 64 → t < 64 → eqb (bit_at (2 ^ 64 - 1 - b) t) 1 ≡ not (eqb (bit_at b t) 1)
not_flag b t small within =
    let turned : bit_at (2 ^ 64 - 1 - b) t ≡ 1 - bit_at b t = bit_at_not w64 b t small within in
    let q = bit_at-lt b t in
    elim (cases_eq (bit_at b t) 1) [
      | inl one ↦ rw (turned, one) refl
      | inr off ↦ let none : bit_at b t ≡ 0 = omega (arith, off, q) in rw (turned, none) refl
    ]

-- a flag of `a` without `b` is a flag of `a` and not of `b`
pub and_not_flag : (a b t : ℕ) → b < 2 ^ 64 → t < 64 → eqb (bit_at (bit_and a (2 ^ 64 - 1 - b)) t) 1 ≡ (eqb (bit_at a t) 1 && not (eqb (bit_at b t) 1))
and_not_flag a b t small within =
    let both = bit_at_and a (2 ^ 64 - 1 - b) t in
    let turned : bit_at (2 ^ 64 - 1 - b) t ≡ 1 - bit_at b t = bit_at_not w64 b t small within in
    let p = bit_at-lt a t in
    let q = bit_at-lt b t in
    elim (cases_eq (bit_at b t) 1) [
      | inl one ↦
          let none : bit_at (bit_and a (2 ^ 64 - 1 - b)) t ≡ 0 = omega (arith, both, turned, one) in
          rw (none, eq-eqb _ 1 one) (sym (and-false (eqb (bit_at a t) 1)))
      | inr off ↦
          let same : bit_at (bit_and a (2 ^ 64 - 1 - b)) t ≡ bit_at a t = omega (arith, both, turned, off, p, q) in
          rw (same, ne_eqb (bit_at b t) 1 off) (sym (and-true (eqb (bit_at a t) 1)))
    ] where
      and-false : (x : Bool) → (x && false) ≡ false
      and-false true = refl
      and-false false = refl

      and-true : (x : Bool) → (x && true) ≡ x
      and-true true = refl
      and-true false = refl

-- words from which others are removed one by one have their own numbers without the others'
pub flags-difference : (new old others : List ℕ) (xs ys zs : List Bool) → flags new ≡ xs → flags old ≡ ys → flags others ≡ zs
    → length new ≡ length old → ((j : ℕ) → j < length old → get_or others j 0 < 2 ^ 64)
    → ((j : ℕ) → j < length old → get_or new j 0 ≡ bit_and (get_or old j 0) (2 ^ 64 - 1 - get_or others j 0)) → (k : ℕ)
    → get_or xs k false ≡ (get_or ys k false && not (get_or zs k false))
flags-difference new old others xs ys zs a b c same fits each k =
    rw (read new xs k a, read old ys k b, read others zs k c) (elim (cases_lt (k / 64) (length old)) [
      | inl within ↦ rw (each (k / 64) within) (and_not_flag (get_or old (k / 64) 0) (get_or others (k / 64) 0) (k % 64) (fits (k / 64) within) (omega arith))
      | inr past ↦
          let p : length new ≤ k / 64 = omega (arith, past, same) in
          rw (get_or_past new (k / 64) 0 p, get_or_past old (k / 64) 0 past, bit_at-zero (k % 64)) refl
    ])

-- if a union is 0, both words are 0
pub or-zero : (a b : ℕ) → a < 2 ^ 64 → b < 2 ^ 64 → bit_or a b ≡ 0 → (a ≡ 0) × (b ≡ 0)
or-zero a b small also none = (
  same_from_bits_below 64 a 0 small (omega arith) (λ i within. let e = part i in e.0 ∙ sym (bit_at-zero i)),
  same_from_bits_below 64 b 0 also (omega arith) (λ i within. let e = part i in e.1 ∙ sym (bit_at-zero i)),
) where
  part : (i : ℕ) → (bit_at a i ≡ 0) × (bit_at b i ≡ 0)
  part i = let both = bit_at_or a b i in let zero : bit_at (bit_or a b) i ≡ 0 = ap (λ w. bit_at w i) none ∙ bit_at-zero i in
      (omega (arith, both, zero), omega (arith, both, zero))

-- and if both are 0, the union is 0
pub or-both_zero : (a b : ℕ) → a ≡ 0 → b ≡ 0 → bit_or a b ≡ 0
or-both_zero a b p q = rw (p, q) refl

-- if all words are 0, no flag is set
pub flags-empty : (words : List ℕ) (xs : List Bool) → flags words ≡ xs → ((j : ℕ) → j < length words → get_or words j 0 ≡ 0)
    → (k : ℕ) → get_or xs k false ≡ false
flags-empty words xs view none k = read words xs k view ∙ (elim (cases_lt (k / 64) (length words)) [
  | inl within ↦ rw (none (k / 64) within, bit_at-zero (k % 64)) refl
  | inr past ↦ rw (get_or_past words (k / 64) 0 past, bit_at-zero (k % 64)) refl
])

-- a bit that is not 1 is 0
bit_off : (n : ℕ) → n < 2 → eqb n 1 ≡ false → n ≡ 0
bit_off zero small off = refl
bit_off (suc zero) small off = absurd (cc)
bit_off (suc (suc n)) small off = absurd (omega (arith, small))

-- if no flag is set, each word is 0
pub empty-flags : (words : List ℕ) (xs : List Bool) → flags words ≡ xs → ((k : ℕ) → get_or xs k false ≡ false) → (j : ℕ)
    → get_or words j 0 < 2 ^ 64 → get_or words j 0 ≡ 0
empty-flags words xs view none j small =
    same_from_bits_below 64 (get_or words j 0) 0 small (omega arith)
    (λ i within. bit_off _ (bit_at-lt (get_or words j 0) i)
    (sym (at_word words j i within) ∙ (sym (read words xs (j * 64 + i) view) ∙ none (j * 64 + i))) ∙ sym (bit_at-zero i))

-- the union of two words is a word
pub or-small : (a b : ℕ) → a < 2 ^ 64 → b < 2 ^ 64 → bit_or a b < 2 ^ 64
or-small a b small also = or_lt 64 a b small also
