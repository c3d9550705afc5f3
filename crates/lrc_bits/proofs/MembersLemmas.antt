-- The numbers that an iterator over a set has left.
use Rattle.std.proofs.Common.{bit_and, ◌≡◌, ◌≢◌, ℕ, ◌+◌, ◌*◌, ◌/◌, ◌%◌, ◌^◌, ◌<◌, false, nat_lt, nat_eq, if◌then◌else◌, List, length, get_or, set, arith, refl, sym, ap, ◌∙◌, inl, inr, w64}
use Rattle.std.proofs.Math.ListN.{length-set}
use Rattle.std.proofs.lemmas.Bool.{cases_eq, cases_lt, eq-eqb, ne_eqb, lt-ltb, le-ltb}
use Rattle.std.proofs.lemmas.List.{ext_get_or, get_or-set_same, get_or-set_other}
use Rattle.std.proofs.lemmas.List.FromFn.{length-map-range_with_len, get_or-map-range_with_len}
use Rattle.std.proofs.lemmas.Nat.Bits.{bit_at-zero}
use Rattle.std.specs.Int.{bit_at, bit_not, trailing_zeros}
use Rattle.lrc_bits.specs.Flags.{flags, words_left, IsFirstFrom}
use Rattle.lrc_bits.proofs.FlagLemmas.{length-flags, flags-remove}
use Rattle.lrc_bits.proofs.FirstFlagLemmas.{found-later}
use Rattle.lrc_bits.proofs.UnionLemmas.{flags-empty}

-- the word at `j` of what is left
abbrev word_left : List ℕ → ℕ → ℕ → ℕ → ℕ
word_left words index rest j = if nat_lt j index then 0 else if nat_eq j index then rest else get_or words j 0

module _ (words : List ℕ) (index rest : ℕ) where
  pub length-left : length (words_left words index rest) ≡ length words
  unfolding words_left
  length-left = length-map-range_with_len (word_left words index rest) 0 (length words)

  get_or-left : (j : ℕ) → j < length words → get_or (words_left words index rest) j 0 ≡ word_left words index rest j
  unfolding words_left
  get_or-left j within = get_or-map-range_with_len (word_left words index rest) 0 (length words) j j 0 within (omega arith)

  -- the words before `index` are 0
  passed : (j : ℕ) → j < length words → j < index → get_or (words_left words index rest) j 0 ≡ 0
  passed j within low = get_or-left j within ∙ rw (lt-ltb j index low) refl

  -- the word at `index` is the rest
  here : index < length words → get_or (words_left words index rest) index 0 ≡ rest
  here within = get_or-left index within ∙ rw (le-ltb index index (omega arith), eq-eqb index index refl) refl

  -- the words after `index` are unchanged
  behind : (j : ℕ) → j < length words → index < j → get_or (words_left words index rest) j 0 ≡ get_or words j 0
  behind j within high = get_or-left j within ∙ rw (le-ltb j index (omega (arith, high)), ne_eqb j index (λ same. absurd (omega (arith, high, same)))) refl

-- at the start all words are left
pub left-first : (words : List ℕ) → 0 < length words → words_left words 0 (get_or words 0 0) ≡ words
left-first words some = ext_get_or 0 _ _ (length-left words 0 (get_or words 0 0)) (λ j below.
    let within : j < length words = rw (length-left words 0 (get_or words 0 0)) at below in
    elim (cases_eq j 0) [
      | inl first ↦ rw first (here words 0 (get_or words 0 0) some)
      | inr later ↦ behind words 0 (get_or words 0 0) j within (omega (arith, later))
    ])

-- a word with nothing left can be skipped
pub left-next : (words : List ℕ) (index : ℕ) → index + 1 < length words
    → words_left words (index + 1) (get_or words (index + 1) 0) ≡ words_left words index 0
left-next words index more =
    let next : ℕ = get_or words (index + 1) 0 in
    ext_get_or 0 _ _ (length-left words (index + 1) next ∙ sym (length-left words index 0)) (λ j below.
    let within : j < length words = rw (length-left words (index + 1) next) at below in
    elim (cases_lt j index) [
      | inl low ↦ passed words (index + 1) next j within (omega (arith, low)) ∙ sym (passed words index 0 j within low)
      | inr high ↦ elim (cases_eq j index) [
        | inl same ↦ rw same (passed words (index + 1) next index (omega (arith, more)) (omega arith) ∙ sym (here words index 0 (omega (arith, more))))
        | inr past ↦ elim (cases_eq j (index + 1)) [
          | inl after ↦ rw after (here words (index + 1) next more ∙ sym (behind words index 0 (index + 1) more (omega arith)))
          | inr far ↦
              behind words (index + 1) next j within (omega (arith, high, past, far))
              ∙ sym (behind words index 0 j within (omega (arith, high, past)))
        ]
      ]
    ])

module _ (words : List ℕ) (index rest : ℕ) (within : index < length words) where
  -- the lowest bit that is left is the first number
  pub left-found : rest ≢ 0 → rest < 2 ^ 64 → IsFirstFrom (flags (words_left words index rest)) 0 (index * 64 + trailing_zeros w64 rest)
  left-found some small =
      let all = words_left words index rest in
      let word = here words index rest within in
      rw word at (found-later all 0 (flags all) refl index (rw (length-left words index rest) within) (omega arith)
      (λ j low below. let less : j / 64 < index = omega (arith, below) in
      ap (λ w. nat_eq (bit_at w (j % 64)) 1) (passed words index rest (j / 64) (omega (arith, less, within)) less)
      ∙ ap (λ n. nat_eq n 1) (bit_at-zero (j % 64)))
      (rw word some) (rw word small))

  -- writing the rest changes only the word at `index`
  left-changed : (new : ℕ) → words_left words index new ≡ set (words_left words index rest) index new
  left-changed new =
      let all = words_left words index rest in
      let inside : index < length all = rw (length-left words index rest) within in
      ext_get_or 0 _ _ (length-left words index new ∙ sym (length-set all index new ∙ length-left words index rest)) (λ j below.
      let less : j < length words = rw (length-left words index new) at below in
      elim (cases_eq j index) [
        | inl own ↦ rw own (here words index new within ∙ sym (get_or-set_same all index new 0 inside))
        | inr other ↦ (elim (cases_lt j index) [
          | inl low ↦ passed words index new j less low ∙ sym (passed words index rest j less low)
          | inr high ↦ behind words index new j less (omega (arith, high, other)) ∙ sym (behind words index rest j less (omega (arith, high, other)))
        ]) ∙ sym (get_or-set_other all index j new 0 other)
      ])

  -- clearing the bit removes that number
  pub left-taken : (t : ℕ) → t < 64
      → flags (words_left words index (bit_and rest (bit_not w64 (1 * 2 ^ t % 2 ^ 64)))) ≡ set (flags (words_left words index rest)) (index * 64 + t) false
  left-taken t small =
      let word : (index * 64 + t) / 64 ≡ index = omega (arith, small) in
      let bit : (index * 64 + t) % 64 ≡ t = omega (arith, small) in
      let all = words_left words index rest in
      let new = bit_and rest (bit_not w64 (1 * 2 ^ t % 2 ^ 64)) in
      let long : length (flags all) ≡ 64 * length words = length-flags all ∙ ap (λ n. 64 * n) (length-left words index rest) in
      let removed = flags-remove all (flags all) (index * 64 + t) refl (omega (arith, small, within, long)) in
      ap flags (left-changed new) ∙ rw (word, bit, here words index rest within) at removed

-- if nothing is left of the last word, no number is left
pub left-none : (words : List ℕ) (index : ℕ) → index + 1 ≡ length words → (k : ℕ) → get_or (flags (words_left words index 0)) k false ≡ false
left-none words index last = flags-empty (words_left words index 0) (flags (words_left words index 0)) refl (λ j below.
    let within : j < length words = rw (length-left words index 0) at below in
    elim (cases_lt j index) [
      | inl low ↦ passed words index 0 j within low
      | inr high ↦ (let same : j ≡ index = omega (arith, high, within, last) in rw same (here words index 0 (omega (arith, last))))
    ])
