-- The first number of a word that is in one set and in neither of two others: by the union of the two.
use Rattle.std.proofs.Common.{bit_and, bit_or, ◌≡◌, ◌≢◌, ℕ, ◌+◌, ◌-◌, ◌*◌, ◌/◌, ◌%◌, ◌^◌, ◌<◌, ◌≤◌, Bool, true, false, ◌||◌, eqb, List, length, get_or, map, arith, refl, sym, ap, ap₂, ◌∙◌, inl, inr, w64}
use Rattle.std.proofs.lemmas.Bool.{cases_lt}
use Rattle.std.proofs.lemmas.List.{get_or_past}
use Rattle.std.proofs.lemmas.Nat.Bits.{bit_at-trailing_zeros}
use Rattle.std.proofs.lemmas.List.FromFn.{length-map-range_with_len, get_or-map-range_with_len}
use Rattle.std.specs.Int.{bit_at, trailing_zeros}
use Rattle.std.specs.List.{range_with_len}
use Rattle.lrc_bits.specs.Flags.{flag, flags, IsFirstOfWord}
use Rattle.lrc_bits.proofs.FlagLemmas.{get_or-flags, read, none-of_word, first-of_word}
use Rattle.lrc_bits.proofs.UnionLemmas.{or_flag}

-- the words of the union of two sets
joined : List ℕ → List ℕ → List ℕ
joined ones others = map (λ j. bit_or (get_or ones j 0) (get_or others j 0)) (range_with_len 0 (length ones))

module _ (ones others : List ℕ) (same : length others ≡ length ones) where
  -- each word is the union of the two words
  joined-word : (j : ℕ) → get_or (joined ones others) j 0 ≡ bit_or (get_or ones j 0) (get_or others j 0)
  unfolding joined
  joined-word j = elim (cases_lt j (length ones)) [
    | inl within ↦ get_or-map-range_with_len (λ i. bit_or (get_or ones i 0) (get_or others i 0)) 0 (length ones) j j 0 within (omega arith)
    | inr past ↦
        let long : length (joined ones others) ≡ length ones =
        length-map-range_with_len (λ i. bit_or (get_or ones i 0) (get_or others i 0)) 0 (length ones) in
        let p : length (joined ones others) ≤ j = omega (arith, long, past) in
        let q : length others ≤ j = omega (arith, same, past) in
        rw (get_or_past (joined ones others) j 0 p, get_or_past ones j 0 past, get_or_past others j 0 q) refl
  ]

  -- each flag is that of one of the two
  joined-flag : (k : ℕ) → flag (joined ones others) k ≡ (flag ones k || flag others k)
  joined-flag k = ap (λ w. eqb (bit_at w (k % 64)) 1) (joined-word (k / 64))
      ∙ or_flag (get_or ones (k / 64) 0) (get_or others (k / 64) 0) (k % 64)

  module _ (ys zs : List Bool) (view : flags ones ≡ ys) (view_other : flags others ≡ zs) where
    -- a number is in one of the two sets exactly if it is in the union
    read_both : (k : ℕ) → (get_or ys k false || get_or zs k false) ≡ get_or (flags (joined ones others)) k false
    read_both k = ap₂ (λ a b. a || b) (read ones ys k view) (read others zs k view_other)
        ∙ sym (get_or-flags (joined ones others) k ∙ joined-flag k)

    module _ (words : List ℕ) (xs : List Bool) (view_words : flags words ≡ xs) where
      -- if the word has no bit outside the union, it has no number outside both
      pub none-of_word_both : (i : ℕ) → bit_or (get_or ones i 0) (get_or others i 0) < 2 ^ 64
          → bit_and (get_or words i 0) (2 ^ 64 - 1 - bit_or (get_or ones i 0) (get_or others i 0)) ≡ 0
          → (j : ℕ) → j / 64 ≡ i → get_or xs j false ≡ true → (get_or ys j false || get_or zs j false) ≡ true
      none-of_word_both i fits empty j near hit =
          let word = joined-word i in
          read_both j ∙ (get_or-flags (joined ones others) j
          ∙ none-of_word words (joined ones others) i (rw word fits) (rw word empty) j near (sym (read words xs j view_words) ∙ hit))

      -- the first bit outside the union is the first number outside both
      pub found-of_word_both : (i : ℕ) → bit_or (get_or ones i 0) (get_or others i 0) < 2 ^ 64
          → bit_and (get_or words i 0) (2 ^ 64 - 1 - bit_or (get_or ones i 0) (get_or others i 0)) ≢ 0
          → bit_and (get_or words i 0) (2 ^ 64 - 1 - bit_or (get_or ones i 0) (get_or others i 0)) < 2 ^ 64
          → IsFirstOfWord xs ys zs i (i * 64 + trailing_zeros w64 (bit_and (get_or words i 0)
          (2 ^ 64 - 1 - bit_or (get_or ones i 0) (get_or others i 0))))
      found-of_word_both i fits some small =
          let word = joined-word i in
          let left : ℕ = bit_and (get_or words i 0) (2 ^ 64 - 1 - bit_or (get_or ones i 0) (get_or others i 0)) in
          let t : ℕ = trailing_zeros w64 left in
          let h = bit_at-trailing_zeros w64 left (omega (arith, some)) small in
          let low : t < 64 = h.0 in
          let found = first-of_word words (joined ones others) i (rw word fits) t low (rw word h.1) (rw word h.2) in
          record {
            near = omega (arith, low);
            has = read words xs (i * 64 + t) view_words ∙ found.0.0;
            lacks = read_both (i * 64 + t) ∙ (get_or-flags (joined ones others) (i * 64 + t) ∙ found.0.1);
            first = λ j near below hit. read_both j ∙ (get_or-flags (joined ones others) j
                ∙ found.1 j near below (sym (read words xs j view_words) ∙ hit));
          }
