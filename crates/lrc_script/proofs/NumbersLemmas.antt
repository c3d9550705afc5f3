-- The numbers of a line, read from the front.
use Rattle.std.proofs.Common.{◌≡◌, ◌≢◌, ℕ, ◌^◌, ◌<◌, ◌≤◌, false, List, [], ◌∷◌, ◌++◌, length, decimal, refl, sym, ap, ◌∙◌, append_assoc, arith}
use Rattle.std.specs.List.{All}
use Rattle.std.specs.Char.{is_ascii_digit}
use Rattle.std.proofs.lemmas.Bool.{true≢false}
use Rattle.std.proofs.lemmas.Fmt.{digits_decimal, length-decimal-le}
use Rattle.std.proofs.lemmas.List.{append_cancel_left}
use Rattle.std.proofs.lemmas.List.Sums.{AllPass-from_list_all}
use Rattle.lrc_script.specs.Scripts.{numbers_text}
use Rattle.lrc_script.specs.Cuts.{HasNoNumbers}
use Rattle.lrc_front.proofs.DigitLemmas.{own}
use Rattle.lrc_script.proofs.CutLemmas.{cut_once}

-- the decimal text of a number has digits alone
pub digits_alone : (n other : ℕ) → n < 2 ^ 64 → is_ascii_digit other ≡ false → All (λ b. b ≢ other) (decimal n)
digits_alone n other small no_digit = λ k d within same.
    true≢false (sym (AllPass-from_list_all is_ascii_digit (decimal n) (digits_decimal own n small) k d within) ∙ ap is_ascii_digit same ∙ no_digit)

-- the text does not start with the word, a number below the bound and this byte
abbrev pub HasNoNumber : List ℕ → List ℕ → ℕ → ℕ → ℕ → Type 0
HasNoNumber text word most bound end =
    (n : ℕ) (rest : List ℕ) → n < bound → length (decimal n) ≤ most → is_ascii_digit end ≡ false → text ≢ word ++ (decimal n ++ end ∷ rest)

few : (n most bound : ℕ) → 0 < most → bound ≤ 10 ^ most → n < bound → bound ≤ 2 ^ 32 → length (decimal n) ≤ most
few n most bound some wide below narrow = length-decimal-le most n some (omega (arith, wide, below)) (omega (arith, below, narrow))

module _ (text word : List ℕ) (most bound : ℕ) (some : 0 < most) (wide : bound ≤ 10 ^ most) where
  -- one number is missing
  pub no_one : HasNoNumber text word most bound 10 → HasNoNumbers text word (bound ∷ [])
  no_one none [] rest below is = absurd below
  no_one none (n ∷ []) rest below is = none n rest below.0.0 (few n most bound some wide below.0.0 below.0.1) refl is
  no_one none (n ∷ m ∷ ms) rest below is = absurd below.1

  -- the first of several numbers is
  pub no_first : (next : ℕ) (bounds : List ℕ) → HasNoNumber text word most bound 32 → HasNoNumbers text word (bound ∷ next ∷ bounds)
  no_first next bounds none [] rest below is = absurd below
  no_first next bounds none (n ∷ []) rest below is = absurd below.1
  no_first next bounds none (n ∷ m ∷ ms) rest below is =
      none n (numbers_text (m ∷ ms) ++ 10 ∷ rest) below.0.0 (few n most bound some wide below.0.0 below.0.1) refl
      (is ∙ ap (λ t. word ++ t) (append_assoc (decimal n) (32 ∷ numbers_text (m ∷ ms)) (10 ∷ rest)))

-- the numbers after the first are
pub no_next :
    (text word behind : List ℕ) (first bound next : ℕ) (bounds : List ℕ) → first < bound → bound ≤ 2 ^ 32 → text ≡ word ++ (decimal first ++ 32 ∷ behind)
    → HasNoNumbers behind [] (next ∷ bounds) → HasNoNumbers text word (bound ∷ next ∷ bounds)
no_next text word behind first bound next bounds low narrow starts none [] rest below is = absurd below
no_next text word behind first bound next bounds low narrow starts none (n ∷ []) rest below is = absurd below.1
no_next text word behind first bound next bounds low narrow starts none (n ∷ m ∷ ms) rest below is =
    let same = append_cancel_left word (decimal first ++ 32 ∷ behind) (decimal n ++ 32 ∷ (numbers_text (m ∷ ms) ++ 10 ∷ rest))
    (sym starts ∙ is ∙ ap (λ t. word ++ t) (append_assoc (decimal n) (32 ∷ numbers_text (m ∷ ms)) (10 ∷ rest))) in
    let parts = cut_once 32 (decimal first) (decimal n) behind (numbers_text (m ∷ ms) ++ 10 ∷ rest)
    (digits_alone first 32 (omega (arith, low, narrow)) refl) (digits_alone n 32 (omega (arith, below.0.0, below.0.1)) refl) same in
    none (m ∷ ms) rest below.1 parts.1
