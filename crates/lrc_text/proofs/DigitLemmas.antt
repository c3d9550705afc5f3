-- Four hexadecimal digits, as they are written with zeros before them.
use Rattle.std.proofs.Common.{◌≡◌, ℕ, suc, ◌-◌, ◌/◌, ◌%◌, ◌<◌, ◌≤◌, ◌^◌, inl, inr, false, List, [], ◌∷◌, refl, ◌∙◌, arith}
use Rattle.std.specs.Fmt.{digits, digits_onto, digit_glyph, padded_integral, format_spec, char_count}
use Rattle.std.proofs.lemmas.Bool.{cases_lt, eq-eqb, ne_eqb}
use Rattle.std.proofs.lemmas.Fmt.{hex_one_digit, hex_two_digits}
use Rattle.lrc_text.specs.Tables.{mask_field}

abbrev glyph : ℕ → ℕ
glyph d = digit_glyph false d

whole : (n : ℕ) → digits 16 false n ≡ digits_onto 64 16 false n []
unfolding digits
whole n = refl

-- the last digit, with others before it or none
step : (n k : ℕ) (behind : List ℕ) → 16 ≤ n → digits_onto (suc k) 16 false n behind ≡ digits_onto k 16 false (n / 16) (glyph (n % 16) ∷ behind)
step n k behind large = rw (ne_eqb (n / 16) 0 (omega arith)) refl

last : (n k : ℕ) (behind : List ℕ) → n < 16 → digits_onto (suc k) 16 false n behind ≡ glyph (n % 16) ∷ behind
last n k behind small = rw (eq-eqb (n / 16) 0 (omega arith)) refl

three_digits : (n : ℕ) → 256 ≤ n → n < 4096 → digits 16 false n ≡ glyph (n / 16 / 16 % 16) ∷ glyph (n / 16 % 16) ∷ glyph (n % 16) ∷ []
three_digits n large small =
    whole n ∙ step n 63 [] (omega arith) ∙ step (n / 16) 62 (glyph (n % 16) ∷ []) (omega arith)
    ∙ last (n / 16 / 16) 61 (glyph (n / 16 % 16) ∷ glyph (n % 16) ∷ []) (omega arith)

four_digits : (n : ℕ) → 4096 ≤ n → n < 65536
    → digits 16 false n ≡ glyph (n / 16 / 16 / 16 % 16) ∷ glyph (n / 16 / 16 % 16) ∷ glyph (n / 16 % 16) ∷ glyph (n % 16) ∷ []
four_digits n large small =
    whole n ∙ step n 63 [] (omega arith) ∙ step (n / 16) 62 (glyph (n % 16) ∷ []) (omega arith)
    ∙ step (n / 16 / 16) 61 (glyph (n / 16 % 16) ∷ glyph (n % 16) ∷ []) (omega arith)
    ∙ last (n / 16 / 16 / 16) 60 (glyph (n / 16 / 16 % 16) ∷ glyph (n / 16 % 16) ∷ glyph (n % 16) ∷ []) (omega arith)

-- what `{:04x}` writes of a mask
pub mask_written : (n : ℕ) → n < 65536 → padded_integral (format_spec 32 0 4 4 (2 ^ 64 - 1)) false [] (digits 16 false n) ≡ mask_field n
unfolding padded_integral char_count
mask_written n small =
    let d : n / 1 % 16 ≡ n % 16 = omega arith in
    elim (cases_lt n 16) [
      | inl one ↦
          let a : n / 4096 % 16 ≡ 0 = omega arith in
          let b : n / 256 % 16 ≡ 0 = omega arith in
          let c : n / 16 % 16 ≡ 0 = omega arith in
          let e : n % 16 ≡ n = omega arith in
          rw (hex_one_digit false n one, a, b, c, d, e) refl
      | inr more ↦ elim (cases_lt n 256) [
        | inl two ↦
            let a : n / 4096 % 16 ≡ 0 = omega arith in
            let b : n / 256 % 16 ≡ 0 = omega arith in
            let c : n / 16 % 16 ≡ n / 16 = omega arith in
            rw (hex_two_digits false n more two, a, b, c, d) refl
        | inr more ↦ elim (cases_lt n 4096) [
          | inl three ↦
              let a : n / 4096 % 16 ≡ 0 = omega arith in
              let b : n / 256 % 16 ≡ n / 16 / 16 % 16 = omega arith in
              rw (three_digits n more three, a, b, d) refl
          | inr more ↦
              let a : n / 4096 % 16 ≡ n / 16 / 16 / 16 % 16 = omega arith in
              let b : n / 256 % 16 ≡ n / 16 / 16 % 16 = omega arith in
              rw (four_digits n more small, a, b, d) refl
        ]
      ]
    ]
