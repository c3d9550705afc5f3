-- The first number of a set from one on, and the numbers of one word.
use Rattle.std.proofs.Common.{below_more, subst, ◌-◌, ◌≡◌, ◌≢◌, ℕ, ◌+◌, ◌*◌, ◌/◌, ◌%◌, ◌^◌, ◌<◌, ◌≤◌, Bool, true, false, not, eqb, List, length, get_or, arith, sym, ap, ◌∙◌, inl, inr, w64}
use Rattle.std.proofs.lemmas.Bool.{cases_eq, cases_lt, eq-eqb, ne_eqb}
use Rattle.std.proofs.lemmas.List.{get_or_past}
use Rattle.std.proofs.lemmas.Nat.Bits.{bit_at-zero, bit_at-trailing_zeros, bit_at_above}
use Rattle.std.proofs.lemmas.Nat.{shr-shr}
use Rattle.std.proofs.Math.Nat.{div-le_self}
use Rattle.std.specs.Int.{bit_at, trailing_zeros}
use Rattle.lrc_bits.specs.Flags.{flag, flags, IsFirstFrom}
use Rattle.lrc_bits.proofs.FlagLemmas.{length-flags, at_word, read, in_word, is_flag}

-- ---- the first number from one on

-- a bit that is 0 is a flag that is not set
is_off : (words : List ℕ) (i t : ℕ) → t < 64 → bit_at (get_or words i 0) t ≡ 0 → flag words (i * 64 + t) ≡ false
is_off words i t small none = at_word words i t small ∙ ap (λ n. eqb n 1) none

-- the bits of a shifted word
shifted : (w s b : ℕ) → bit_at (w / 2 ^ s) b ≡ bit_at w (s + b)
shifted w s b = ap (λ x. x % 2) (shr-shr w s b)

module _ (words : List ℕ) (from : ℕ) where
  -- if the shifted word has no bit below `t`, no number from `from` up to that bit is in the set
  off_in_word : (t : ℕ) → from % 64 + t ≤ 64 → ((b : ℕ) → b < t → bit_at (get_or words (from / 64) 0 / 2 ^ (from % 64)) b ≡ 0)
      → (j : ℕ) → from ≤ j → j < from + t → flag words j ≡ false
  off_in_word t small none j low high =
      let s : ℕ = from % 64 in
      let b : ℕ = j - from in
      let less : b < t = omega (arith, low, high) in
      let bit : bit_at (get_or words (from / 64) 0) (s + b) ≡ 0 = sym (shifted (get_or words (from / 64) 0) s b) ∙ none b less in
      let inside : s + b < 64 = omega (arith, small, less) in
      let same : from / 64 * 64 + (s + b) ≡ j = omega (arith, low) in
      subst (λ k. flag words k ≡ false) same (is_off words (from / 64) (s + b) inside bit)

  -- if the rest of the first word has no bit, none of its numbers from `from` on is in the set
  pub off-start : get_or words (from / 64) 0 / 2 ^ (from % 64) ≡ 0 → (j : ℕ) → from ≤ j → j < 64 * (from / 64 + 1) → flag words j ≡ false
  off-start empty j low high =
      off_in_word (64 - from % 64) (omega arith) (λ b less. ap (λ w. bit_at w b) empty ∙ bit_at-zero b) j low (omega (arith, high))

  -- the first bit of the rest of the first word is in that word
  start-inside : get_or words (from / 64) 0 < 2 ^ 64 → get_or words (from / 64) 0 / 2 ^ (from % 64) ≢ 0
      → get_or words (from / 64) 0 / 2 ^ (from % 64) < 2 ^ 64 → from % 64 + trailing_zeros w64 (get_or words (from / 64) 0 / 2 ^ (from % 64)) < 64
  start-inside fits some small =
      let s : ℕ = from % 64 in
      let w : ℕ = get_or words (from / 64) 0 in
      let t : ℕ = trailing_zeros w64 (w / 2 ^ s) in
      let h = bit_at-trailing_zeros w64 (w / 2 ^ s) (omega (arith, some)) small in
      let bit : bit_at w (s + t) ≡ 1 = sym (shifted w s t) ∙ h.1 in
      elim (cases_lt (s + t) 64) [
        | inl less ↦ less
        | inr more ↦ absurd (let none : bit_at w (s + t) ≡ 0 = bit_at_above w 64 (s + t) fits more in omega (arith, none, bit))
      ]

  -- one more word without a bit
  pub off-more : (i : ℕ) → ((j : ℕ) → from ≤ j → j < 64 * i → flag words j ≡ false) → get_or words i 0 ≡ 0 → (j : ℕ) → from ≤ j
      → j < 64 * (i + 1) → flag words j ≡ false
  off-more i before empty j low high =
      in_word (λ k. from ≤ k → flag words k ≡ false) i 64 (omega arith) (λ k less later. before k later less)
      (λ b small later. is_off words i b small (ap (λ w. bit_at w b) empty ∙ bit_at-zero b)) j (omega (arith, high)) low

  module _ (xs : List Bool) (view : flags words ≡ xs) where
    -- the first bit of the rest of the first word is the first number from `from` on
    pub found-start : get_or words (from / 64) 0 < 2 ^ 64 → from / 64 < length words → get_or words (from / 64) 0 / 2 ^ (from % 64) ≢ 0
        → get_or words (from / 64) 0 / 2 ^ (from % 64) < 2 ^ 64
        → IsFirstFrom xs from (from + trailing_zeros w64 (get_or words (from / 64) 0 / 2 ^ (from % 64)))
    found-start fits within some small =
        let s : ℕ = from % 64 in
        let w : ℕ = get_or words (from / 64) 0 in
        let t : ℕ = trailing_zeros w64 (w / 2 ^ s) in
        let h = bit_at-trailing_zeros w64 (w / 2 ^ s) (omega (arith, some)) small in
        let bit : bit_at w (s + t) ≡ 1 = sym (shifted w s t) ∙ h.1 in
        let inside : s + t < 64 = start-inside fits some small in
        let same : from / 64 * 64 + (s + t) ≡ from + t = omega arith in
        let long : length xs ≡ 64 * length words = ap length (sym view) ∙ length-flags words in
        record {
          within = omega (arith, inside, long, within, same);
          has = read words xs (from + t) view ∙ subst (λ k. flag words k ≡ true) same (is_flag words (from / 64) (s + t) inside bit);
          later = omega arith;
          first = λ j low high. read words xs j view ∙ off_in_word t (omega (arith, inside)) h.2 j low high;
        }

    -- the first bit of a later word is the first number from `from` on
    pub found-later : (i : ℕ) → i < length words → from ≤ i * 64 → ((j : ℕ) → from ≤ j → j < 64 * i → flag words j ≡ false)
        → get_or words i 0 ≢ 0 → get_or words i 0 < 2 ^ 64
        → IsFirstFrom xs from (i * 64 + trailing_zeros w64 (get_or words i 0))
    found-later i within beyond before some small =
        let w : ℕ = get_or words i 0 in
        let t : ℕ = trailing_zeros w64 w in
        let h = bit_at-trailing_zeros w64 w (omega (arith, some)) small in
        let low : t < 64 = h.0 in
        let long : length xs ≡ 64 * length words = ap length (sym view) ∙ length-flags words in
        record {
          within = omega (arith, low, long, within);
          has = read words xs (i * 64 + t) view ∙ is_flag words i t low h.1;
          later = omega (arith, beyond);
          first = λ j above below. read words xs j view ∙ in_word (λ k. from ≤ k → flag words k ≡ false) i t (omega (arith, low))
              (λ k less later. before k later less)
              (λ b less later. is_off words i b (omega (arith, less, low)) (h.2 b less)) j below above;
        }

    -- if no word has a bit, there is no number
    pub found-none_from : ((j : ℕ) → from ≤ j → j < 64 * length words → flag words j ≡ false) → (j : ℕ) → from ≤ j
        → get_or xs j false ≡ false
    found-none_from all j above = elim (cases_lt j (64 * length words)) [
      | inl within ↦ read words xs j view ∙ all j above within
      | inr past ↦
          let long : length xs ≡ 64 * length words = ap length (sym view) ∙ length-flags words in
          let beyond : length xs ≤ j = omega (arith, past, long) in
          get_or_past xs j false beyond
    ]

-- ---- the numbers of one word

-- the test for 0
pub is_zero : (w : ℕ) → not (eqb w 0) ≡ false → w ≡ 0
is_zero w miss = elim (cases_eq w 0) [
  | inl none ↦ none
  | inr some ↦ absurd (let clash : true ≡ false = rw (ne_eqb w 0 some) at miss in cc)
]

pub is_not_zero : (w : ℕ) → not (eqb w 0) ≡ true → w ≢ 0
is_not_zero w hit = λ none. absurd (let clash : false ≡ true = rw (eq-eqb w 0 none) at hit in cc)

module _ (words : List ℕ) (xs : List Bool) (view : flags words ≡ xs) (i : ℕ) where
  -- a word that is not 0 has a number
  pub near-some : get_or words i 0 ≢ 0 → get_or words i 0 < 2 ^ 64 → (k : ℕ) × (k / 64 ≡ i) × (get_or xs k false ≡ true)
  near-some some small =
      let w : ℕ = get_or words i 0 in
      let t : ℕ = trailing_zeros w64 w in
      let h = bit_at-trailing_zeros w64 w (omega (arith, some)) small in
      let low : t < 64 = h.0 in
      (i * 64 + t, omega (arith, low), read words xs (i * 64 + t) view ∙ is_flag words i t low h.1)

  -- the word 0 has no number
  pub near-none : get_or words i 0 ≡ 0 → (k : ℕ) → k / 64 ≡ i → get_or xs k false ≡ false
  near-none empty k here = read words xs k view
      ∙ ap (λ n. eqb n 1) (ap (λ j. bit_at (get_or words j 0) (k % 64)) here ∙ (ap (λ w. bit_at w (k % 64)) empty ∙ bit_at-zero (k % 64)))

-- a word that is shifted right is still a word
pub shifted-small : (w s : ℕ) → w < 2 ^ 64 → w / 2 ^ s < 2 ^ 64
shifted-small w s small = omega (arith, div-le_self w (2 ^ s))

-- what holds below a number and for it holds below the next
pub up_to : (P : ℕ → Type 0) (i : ℕ) → ((j : ℕ) → j < i → P j) → P i → (j : ℕ) → j < i + 1 → P j
up_to P i before here = below_more P i before here
