-- Reading and writing the flags of words.
use Rattle.std.proofs.Common.{bit_and, bit_or, subst, min, ◌-◌, ◌≡◌, ◌≢◌, ℕ, zero, suc, ◌+◌, ◌*◌, ◌/◌, ◌%◌, ◌^◌, ◌<◌, ◌≤◌, Bool, true, false, cond, eqb, List, [], ◌∷◌, length, get_or, set, replicate, arith, refl, sym, ap, ◌∙◌, inl, inr, w64}
use Rattle.std.proofs.Math.ListN.{length-set}
use Rattle.std.proofs.lemmas.Bool.{cases_eq, cases_lt, eq-eqb, ne_eqb, eqb-true}
use Rattle.std.proofs.lemmas.List.{length-replicate, ext_get_or, get_or_past, get_or-set_same, get_or-set_other}
use Rattle.std.proofs.lemmas.List.FromFn.{length-map-range_with_len, get_or-map-range_with_len}
use Rattle.std.proofs.lemmas.Nat.Bits.{shr_and_one, bit_at-zero, bit_at_set_same, bit_at_set_other, bit_at_clear_same, bit_at_clear_other, bit_at_ones, bit_at-trailing_ones, bit_at_and, bit_at_not, bit_at-lt}
use Rattle.std.specs.Int.{bit_at, bit_not, trailing_ones}
use Rattle.lrc_bits.specs.Flags.{flag, flags, IsFirstAbsent}

-- each word has 64 flags
pub length-flags : (words : List ℕ) → length (flags words) ≡ 64 * length words
unfolding flags
length-flags words = length-map-range_with_len (flag words) 0 (64 * length words)

-- the flag of a number; false after the last word
pub get_or-flags : (words : List ℕ) (k : ℕ) → get_or (flags words) k false ≡ flag words k
unfolding flags
get_or-flags words k = elim (cases_lt k (64 * length words)) [
  | inl within ↦ get_or-map-range_with_len (flag words) 0 (64 * length words) k k false within (omega arith)
  | inr past ↦
      let beyond : length words ≤ k / 64 = omega (arith, past) in
      let none : get_or words (k / 64) 0 ≡ 0 = get_or_past words (k / 64) 0 beyond in
      let long : length (flags words) ≤ k = omega (arith, length-flags words, past) in
      get_or_past (flags words) k false long ∙ sym (ap (λ n. eqb n 1) (ap (λ w. bit_at w (k % 64)) none ∙ bit_at-zero (k % 64)))
]

-- two numbers in the same word have different bits
split : (j k : ℕ) → j ≢ k → j / 64 ≡ k / 64 → j % 64 ≢ k % 64
split j k differ same e = differ (omega (arith, same, e))

-- writing a word that differs only in one bit changes only that flag
pub flags-set : (words : List ℕ) (k v : ℕ) (b : Bool) → k < 64 * length words → eqb (bit_at v (k % 64)) 1 ≡ b
    → ((i : ℕ) → i < 64 → i ≢ k % 64 → bit_at v i ≡ bit_at (get_or words (k / 64) 0) i) → flags (set words (k / 64) v) ≡ set (flags words) k b
flags-set words k v b within here others =
    let inside : k / 64 < length words = omega (arith, within) in
    let long : length (flags (set words (k / 64) v)) ≡ length (set (flags words) k b) =
    length-flags (set words (k / 64) v)
    ∙ (ap (λ n. 64 * n) (length-set words (k / 64) v) ∙ sym (length-set (flags words) k b ∙ length-flags words)) in
    let place : k < length (flags words) = rw (length-flags words) within in
    ext_get_or false _ _ long (λ j below. get_or-flags (set words (k / 64) v) j ∙ (elim (cases_eq j k) [
      | inl same ↦
          rw same (ap (λ w. eqb (bit_at w (k % 64)) 1) (get_or-set_same words (k / 64) v 0 inside)
          ∙ (here ∙ sym (get_or-set_same (flags words) k b false place)))
      | inr differ ↦ elim (cases_eq (j / 64) (k / 64)) [
        | inl word ↦
            rw word (ap (λ w. eqb (bit_at w (j % 64)) 1) (get_or-set_same words (k / 64) v 0 inside)
            ∙ (ap (λ n. eqb n 1) (others (j % 64) (omega arith) (split j k differ word))
            ∙ sym (get_or-set_other (flags words) k j b false differ
            ∙ (get_or-flags words j ∙ ap (λ w. eqb (bit_at (get_or words w 0) (j % 64)) 1) word))))
        | inr word ↦
            ap (λ w. eqb (bit_at w (j % 64)) 1) (get_or-set_other words (k / 64) (j / 64) v 0 word)
            ∙ sym (get_or-set_other (flags words) k j b false differ ∙ get_or-flags words j)
      ]
    ]))

-- ---- words and flags of a set with `w` words

-- a number within the flags has a word
pub word-within : (words : List ℕ) (xs : List Bool) (k w : ℕ) → length words ≡ w → flags words ≡ xs → k < length xs → k / 64 < w
word-within words xs k w long view within =
    let all : length xs ≡ 64 * length words = ap length (sym view) ∙ length-flags words in
    omega (arith, all, within, long)

-- a word whose first number is within the flags is one of the set's
pub word-below : (words : List ℕ) (xs : List Bool) (i w : ℕ) → length words ≡ w → flags words ≡ xs → 64 * i < length xs → i < w
word-below words xs i w long view within =
    let all : length xs ≡ 64 * length words = ap length (sym view) ∙ length-flags words in
    omega (arith, all, within, long)

-- a number within the flags is within the words
pub place-within : (words : List ℕ) (xs : List Bool) (k : ℕ) → flags words ≡ xs → k < length xs → k < 64 * length words
place-within words xs k view within =
    let all : length xs ≡ 64 * length words = ap length (sym view) ∙ length-flags words in
    omega (arith, all, within)

-- testing a bit reads its flag
pub shifted-bit : (words : List ℕ) (xs : List Bool) (k : ℕ) → flags words ≡ xs
    → eqb (bit_and (get_or words (k / 64) 0 / 2 ^ (k % 64)) 1) 1 ≡ get_or xs k false
shifted-bit words xs k view = ap (λ n. eqb n 1) (shr_and_one (get_or words (k / 64) 0) (k % 64))
    ∙ (sym (get_or-flags words k) ∙ ap (λ ys. get_or ys k false) view)

-- setting a bit sets its flag
pub flags-insert : (words : List ℕ) (xs : List Bool) (k : ℕ) → flags words ≡ xs → k < length xs
    → flags (set words (k / 64) (bit_or (get_or words (k / 64) 0) (1 * 2 ^ (k % 64) % 2 ^ 64))) ≡ set xs k true
flags-insert words xs k view within =
    let word = get_or words (k / 64) 0 in
    let small : k % 64 < 64 = omega arith in
    flags-set words k (bit_or word (1 * 2 ^ (k % 64) % 2 ^ 64)) true (place-within words xs k view within)
    (eq-eqb _ _ (bit_at_set_same w64 word (k % 64) small)) (λ i below other. bit_at_set_other w64 word (k % 64) small i other)
    ∙ ap (λ ys. set ys k true) view

-- clearing a bit clears its flag
pub flags-remove : (words : List ℕ) (xs : List Bool) (k : ℕ) → flags words ≡ xs → k < length xs
    → flags (set words (k / 64) (bit_and (get_or words (k / 64) 0) (bit_not w64 (1 * 2 ^ (k % 64) % 2 ^ 64)))) ≡ set xs k false
flags-remove words xs k view within =
    let word = get_or words (k / 64) 0 in
    let small : k % 64 < 64 = omega arith in
    let here : bit_at (bit_and word (bit_not w64 (1 * 2 ^ (k % 64) % 2 ^ 64))) (k % 64) ≡ 0 = bit_at_clear_same w64 word (k % 64) small in
    flags-set words k (bit_and word (bit_not w64 (1 * 2 ^ (k % 64) % 2 ^ 64))) false (place-within words xs k view within)
    (ap (λ n. eqb n 1) here) (λ i below other. bit_at_clear_other w64 word (k % 64) small i below other)
    ∙ ap (λ ys. set ys k false) view

-- each word of an empty set is 0
no_words : (w i d : ℕ) → get_or (replicate {A = ℕ} w 0) i 0 ≡ 0
no_words zero i d = refl
no_words (suc n) zero d = refl
no_words (suc n) (suc i) d = no_words n i d

-- no flag of an empty set is set
no_flags : (n i : ℕ) → get_or (replicate n false) i false ≡ false
no_flags zero i = refl
no_flags (suc n) zero = refl
no_flags (suc n) (suc i) = no_flags n i

-- words of 0 have no flag set
pub flags-none : (w : ℕ) → flags (replicate w 0) ≡ replicate (64 * w) false
flags-none w = ext_get_or false _ _ (length-flags (replicate w 0) ∙ (ap (λ n. 64 * n) (length-replicate w 0) ∙ sym (length-replicate (64 * w) false)))
    (λ j below. get_or-flags (replicate w 0) j
    ∙ (ap (λ n. eqb n 1) (ap (λ x. bit_at x (j % 64)) (no_words w (j / 64) 0) ∙ bit_at-zero (j % 64)) ∙ sym (no_flags (64 * w) j)))

-- ---- word by word

-- a flag is a bit of its word
pub at_word : (words : List ℕ) (i t : ℕ) → t < 64 → flag words (i * 64 + t) ≡ eqb (bit_at (get_or words i 0) t) 1
at_word words i t small =
    let word : (i * 64 + t) / 64 ≡ i = omega (arith, small) in
    let place : (i * 64 + t) % 64 ≡ t = omega (arith, small) in
    rw (word, place) refl

-- a flag of a set, read from its words
pub read : (words : List ℕ) (xs : List Bool) (k : ℕ) → flags words ≡ xs → get_or xs k false ≡ flag words k
read words xs k view = ap (λ ys. get_or ys k false) (sym view) ∙ get_or-flags words k

-- the bits of one word
pub word-bits : (words : List ℕ) (xs : List Bool) (i k : ℕ) → flags words ≡ xs → k < 64 → eqb (bit_at (get_or words i 0) k) 1 ≡ get_or xs (64 * i + k) false
word-bits words xs i k view small =
    let place : 64 * i + k ≡ i * 64 + k = omega arith in
    sym (read words xs (64 * i + k) view ∙ (ap (flag words) place ∙ at_word words i k small))

-- another word in a word's place leaves the length
pub flags-length_set : (words : List ℕ) (xs : List Bool) (i w : ℕ) → flags words ≡ xs → length (flags (set words i w)) ≡ length xs
flags-length_set words xs i w view =
    length-flags (set words i w) ∙ (ap (λ n. 64 * n) (length-set words i w) ∙ (sym (length-flags words) ∙ ap length view))

-- and has its bits for flags
pub flags-put_word : (words : List ℕ) (xs : List Bool) (i w : ℕ) → flags words ≡ xs → i < length words → (k : ℕ)
    → get_or (flags (set words i w)) k false ≡ cond (eqb (k / 64) i) (eqb (bit_at w (k % 64)) 1) (get_or xs k false)
flags-put_word words xs i w view within k = get_or-flags (set words i w) k ∙ elim (cases_eq (k / 64) i) [
  | inl here ↦
      ap (λ j. eqb (bit_at (get_or (set words i w) j 0) (k % 64)) 1) here
      ∙ (ap (λ x. eqb (bit_at x (k % 64)) 1) (get_or-set_same words i w 0 within)
      ∙ ap (λ b. cond b (eqb (bit_at w (k % 64)) 1) (get_or xs k false)) (sym (eq-eqb (k / 64) i here)))
  | inr other ↦
      ap (λ x. eqb (bit_at x (k % 64)) 1) (get_or-set_other words i (k / 64) w 0 other)
      ∙ (sym (read words xs k view) ∙ ap (λ b. cond b (eqb (bit_at w (k % 64)) 1) (get_or xs k false)) (sym (ne_eqb (k / 64) i other)))
]

-- the flags of one word, as a set of its own
pub alone-word : (words : List ℕ) (xs : List Bool) (i k : ℕ) → flags words ≡ xs → k < 64
    → get_or (flags (get_or words i 0 ∷ [])) k false ≡ get_or xs (64 * i + k) false
alone-word words xs i k view small =
    let word = get_or words i 0 in
    let own : 0 * 64 + k ≡ k = omega arith in
    get_or-flags (word ∷ []) k ∙ (ap (flag (word ∷ [])) (sym own) ∙ at_word (word ∷ []) 0 k small ∙ word-bits words xs i k view small)

-- what holds for all earlier words, and for the bits of a word below `t`, holds for all numbers below that bit
pub in_word : (P : ℕ → Type 0) (i t : ℕ) → t ≤ 64 → ((j : ℕ) → j < 64 * i → P j) → ((b : ℕ) → b < t → P (i * 64 + b)) → (j : ℕ)
    → j < i * 64 + t → P j
in_word P i t small before here j below = elim (cases_lt j (64 * i)) [
  | inl low ↦ before j low
  | inr high ↦
      let same : i * 64 + (j - i * 64) ≡ j = omega (arith, high) in
      subst P same (here (j - i * 64) (omega (arith, high, below)))
]

-- if one more word is full, one more word's flags are set
pub full-more : (words : List ℕ) (i : ℕ) → ((j : ℕ) → j < 64 * i → flag words j ≡ true) → get_or words i 0 ≡ 2 ^ 64 - 1
    → (j : ℕ) → j < 64 * (i + 1) → flag words j ≡ true
full-more words i all full j below =
    in_word (λ k. flag words k ≡ true) i 64 (omega arith) all
    (λ b small. at_word words i b small ∙ eq-eqb _ _ (ap (λ w. bit_at w b) full ∙ bit_at_ones 64 b small)) j (omega (arith, below))

-- the first absent number is in the first word that is not full
pub found-absent : (words : List ℕ) (xs : List Bool) (i : ℕ) → flags words ≡ xs → i < length words
    → ((j : ℕ) → j < 64 * i → flag words j ≡ true)
    → get_or words i 0 + 1 < 2 ^ 64 → IsFirstAbsent xs (i * 64 + trailing_ones w64 (get_or words i 0))
found-absent words xs i view within all small =
    let w = get_or words i 0 in
    let h = bit_at-trailing_ones w64 w small in
    let t = trailing_ones w64 w in
    let low : t < 64 = h.0 in
    let long : length xs ≡ 64 * length words = ap length (sym view) ∙ length-flags words in
    let miss : bit_at w t ≡ 0 = h.1 in
    record {
      within = omega (arith, low, long, within);
      lacks = read words xs (i * 64 + t) view ∙ (at_word words i t low ∙ ap (λ n. eqb n 1) miss);
      first = λ j below. read words xs j view ∙ in_word (λ k. flag words k ≡ true) i t (omega (arith, low)) all
          (λ b less. at_word words i b (omega (arith, less, low)) ∙ eq-eqb _ _ (h.2 b less)) j below;
    }

-- if all words are full, no number is absent
pub found-none_absent : (words : List ℕ) (xs : List Bool) → flags words ≡ xs
    → ((j : ℕ) → j < 64 * length words → flag words j ≡ true) → (j : ℕ) → j < length xs → get_or xs j false ≡ true
found-none_absent words xs view all j below = read words xs j view ∙ all j (place-within words xs j view below)

-- ---- the first number that one set has and the other lacks

-- a bit of `a` without `b` is a bit of `a` and not of `b`
and_not-one : (a b t : ℕ) → b < 2 ^ 64 → t < 64 → bit_at (bit_and a (2 ^ 64 - 1 - b)) t ≡ 1 → (bit_at a t ≡ 1) × (bit_at b t ≡ 0)
and_not-one a b t small within one =
    let both : bit_at (bit_and a (2 ^ 64 - 1 - b)) t ≡ min (bit_at a t) (bit_at (2 ^ 64 - 1 - b) t) = bit_at_and a (2 ^ 64 - 1 - b) t in
    let other : bit_at (2 ^ 64 - 1 - b) t ≡ 1 - bit_at b t = bit_at_not w64 b t small within in
    let p = bit_at-lt a t in
    let q = bit_at-lt b t in
    (omega (arith, both, other, one, p, q), omega (arith, both, other, one, p, q))

-- if `a` without `b` lacks a bit that `a` has, then `b` has it
and_not-zero : (a b t : ℕ) → b < 2 ^ 64 → t < 64 → bit_at (bit_and a (2 ^ 64 - 1 - b)) t ≡ 0 → bit_at a t ≡ 1 → bit_at b t ≡ 1
and_not-zero a b t small within none has =
    let both : bit_at (bit_and a (2 ^ 64 - 1 - b)) t ≡ min (bit_at a t) (bit_at (2 ^ 64 - 1 - b) t) = bit_at_and a (2 ^ 64 - 1 - b) t in
    let other : bit_at (2 ^ 64 - 1 - b) t ≡ 1 - bit_at b t = bit_at_not w64 b t small within in
    let q = bit_at-lt b t in
    omega (arith, both, other, none, has, q)

-- a flag that is set is a bit that is 1
is_one : (words : List ℕ) (i t : ℕ) → t < 64 → flag words (i * 64 + t) ≡ true → bit_at (get_or words i 0) t ≡ 1
is_one words i t small hit = eqb-true _ 1 (sym (at_word words i t small) ∙ hit)

-- a bit that is 1 is a flag that is set
pub is_flag : (words : List ℕ) (i t : ℕ) → t < 64 → bit_at (get_or words i 0) t ≡ 1 → flag words (i * 64 + t) ≡ true
is_flag words i t small one = at_word words i t small ∙ eq-eqb _ 1 one

-- the numbers of a word are its bits
at_bit : (P : ℕ → Type 0) (i t : ℕ) → ((b : ℕ) → b < t → P (i * 64 + b)) → (j : ℕ) → j / 64 ≡ i → j < i * 64 + t → P j
at_bit P i t here j near below =
    let same : i * 64 + j % 64 ≡ j = omega (arith, near) in
    subst P same (here (j % 64) (omega (arith, near, below)))

module _ (words others : List ℕ) (i : ℕ) (fits : get_or others i 0 < 2 ^ 64) where
  -- if `words` without `others` has no bit below `t`, the other word has each such bit that the word has
  bit_too : (t : ℕ) → t ≤ 64 → ((b : ℕ) → b < t → bit_at (bit_and (get_or words i 0) (2 ^ 64 - 1 - get_or others i 0)) b ≡ 0)
      → (b : ℕ) → b < t → flag words (i * 64 + b) ≡ true → flag others (i * 64 + b) ≡ true
  bit_too t small none b less hit =
      let low : b < 64 = omega (arith, less, small) in
      is_flag others i b low (and_not-zero (get_or words i 0) (get_or others i 0) b fits low (none b less) (is_one words i b low hit))

  -- if the word has no bit outside the other, it has no number outside it
  pub none-of_word : bit_and (get_or words i 0) (2 ^ 64 - 1 - get_or others i 0) ≡ 0 → (j : ℕ) → j / 64 ≡ i
      → flag words j ≡ true → flag others j ≡ true
  none-of_word empty j near =
      at_bit (λ k. flag words k ≡ true → flag others k ≡ true) i 64
      (bit_too 64 (omega arith) (λ b less. ap (λ w. bit_at w b) empty ∙ bit_at-zero b)) j near (omega (arith, near))

  -- the first bit outside the other word is the first number outside it
  pub first-of_word : (t : ℕ) → t < 64 → bit_at (bit_and (get_or words i 0) (2 ^ 64 - 1 - get_or others i 0)) t ≡ 1
      → ((b : ℕ) → b < t → bit_at (bit_and (get_or words i 0) (2 ^ 64 - 1 - get_or others i 0)) b ≡ 0)
      → ((flag words (i * 64 + t) ≡ true) × (flag others (i * 64 + t) ≡ false))
      × ((j : ℕ) → j / 64 ≡ i → j < i * 64 + t → flag words j ≡ true → flag others j ≡ true)
  first-of_word t low one none =
      let bits = and_not-one (get_or words i 0) (get_or others i 0) t fits low one in (
        (is_flag words i t low bits.0, at_word others i t low ∙ ap (λ n. eqb n 1) bits.1),
        at_bit (λ k. flag words k ≡ true → flag others k ≡ true) i t (bit_too t (omega (arith, low)) none),
      )
