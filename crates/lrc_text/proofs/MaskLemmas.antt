-- A word of four hexadecimal digits, read as a number.
use Rattle.std.proofs.Common.{◌≡◌, ◌≢◌, ℕ, ◌<◌, ◌-◌, ◌||◌, ◌&&◌, ◌++◌, inl, inr, true, nat_eq, nat_le, Option, Some, Result, Ok, Err, OnOk, List, [], ◌∷◌, length, sym, ap, ◌∙◌, arith, append_assoc}
use borrow.Author.Tests.{ne_eqb}
use Rattle.std.proofs.lemmas.Bool.{eqb-true, eq-eqb, leb-true, and_parts, or_cases, cond_below, cond_above}
use Rattle.std.specs.Char.{is_ascii_hexdigit, digit_value, IsAsciiHexdigit}
use Rattle.std.specs.Int.{is_in_range, IsInRange}
use Rattle.std.specs.List.{list_all}
use Rattle.std.specs.Result.{result_ok, OkIff}
use Rattle.std.specs.Str.Parse.{digits_value, ParsesUnsigned}
use Rattle.lrc_code.specs.declared.codes.Code.{Code}
use Rattle.lrc_code.specs.declared.codes.Class.TheVariants.{A, B, G}
use Rattle.lrc_code.specs.Losses.{losses_in, margin_of, bits_set}
use Rattle.lrc_text.specs.Masks.{is_mask, counts_text, margin_text, losses_line}

-- what is known of a digit
record IsDigit (c : ℕ) : Type 0 where
  below : digit_value c < 16
  other : c ≢ 43

ranged : (low high c : ℕ) → is_in_range low high c ≡ true → IsInRange low high c
ranged low high c e = let both = and_parts (nat_le low c) (nat_le c high) e in (leb-true low c both.0, leb-true c high both.1)

in_ranges : (c : ℕ) → is_ascii_hexdigit c ≡ true → IsAsciiHexdigit c
in_ranges c hex =
    elim (or_cases (is_in_range 48 57 c || is_in_range 65 70 c) (is_in_range 97 102 c) hex) [
      | inl low ↦ elim (or_cases (is_in_range 48 57 c) (is_in_range 65 70 c) low) [ inl h ↦ inl (inl (ranged 48 57 c h)) | inr h ↦ inl (inr (ranged 65 70 c h)) ]
      | inr h ↦ inr (ranged 97 102 c h)
    ]

value : (c : ℕ) → IsAsciiHexdigit c → digit_value c < 16
value c (inl (inl h)) = let e : c - 48 ≡ digit_value c = cond_above c 48 _ _ _ (omega arith) (cond_below c 58 _ _ (omega arith)) in omega arith
value c (inl (inr h)) = let e : c - 55 ≡ digit_value c = cond_above c 48 _ _ _ (omega arith) (cond_above c 58 _ _ _ (omega arith) (cond_above c 65 _ _ _ (omega arith) (cond_below c 91 _ _ (omega arith)))) in omega arith
value c (inr h) =
    let e : c - 87 ≡ digit_value c = cond_above c 48 _ _ _ (omega arith) (cond_above c 58 _ _ _ (omega arith) (cond_above c 65 _ _ _ (omega arith) (cond_above c 91 _ _ _ (omega arith) (cond_above c 97 _ _ _ (omega arith) (cond_below c 123 _ _ (omega arith)))))) in
    omega arith

no_plus : (c : ℕ) → IsAsciiHexdigit c → c ≢ 43
no_plus c (inl (inl h)) e = omega arith
no_plus c (inl (inr h)) e = omega arith
no_plus c (inr h) e = omega arith

digit : (c : ℕ) → is_ascii_hexdigit c ≡ true → IsDigit c
digit c hex = let ranges = in_ranges c hex in record { below = value c ranges; other = no_plus c ranges }

ok_given : {E : Type 0} (r : Result ℕ E) (P : Type 0) (v : ℕ) → OkIff r P v → P → result_ok r ≡ Some v
ok_given (Ok x) P v h p = ap Some h.1
ok_given (Err e) P v h p = absurd (h p)

four_digits : {E : Type 0} (a b c d : ℕ) (r : Result ℕ E) → IsDigit a → IsDigit b → IsDigit c → IsDigit d → ParsesUnsigned 16 16 (a ∷ b ∷ c ∷ d ∷ []) r
    → result_ok r ≡ Some (digits_value 16 (a ∷ b ∷ c ∷ d ∷ []))
four_digits a b c d r x y z w parses =
    ok_given r _ _ (rw (ne_eqb a 43 x.other) at parses) ((omega arith, (x.below, (y.below, (z.below, (w.below, tt))))), omega (arith, x.below, y.below, z.below, w.below))

four : {E : Type 0} (word : List ℕ) (r : Result ℕ E) → length word ≡ 4 → list_all is_ascii_hexdigit word ≡ true → ParsesUnsigned 16 16 word r → result_ok r ≡ Some (digits_value 16 word)
four [] r long hex parses = absurd (omega (arith, long))
four (a ∷ []) r long hex parses = absurd (omega (arith, long))
four (a ∷ b ∷ []) r long hex parses = absurd (omega (arith, long))
four (a ∷ b ∷ c ∷ []) r long hex parses = absurd (omega (arith, long))
four (a ∷ b ∷ c ∷ d ∷ e ∷ rest) r long hex parses = absurd (omega (arith, long))
four (a ∷ b ∷ c ∷ d ∷ []) r long hex parses =
    let of_a = and_parts _ _ hex in
    let of_b = and_parts _ _ of_a.1 in
    let of_c = and_parts _ _ of_b.1 in
    let of_d = and_parts _ _ of_c.1 in
    four_digits a b c d r (digit a of_a.0) (digit b of_b.0) (digit c of_c.0) (digit d of_d.0) parses

-- such a word is read as its number
pub mask_read : {E : Type 0} (word : List ℕ) (r : Result ℕ E) → is_mask word ≡ true → ParsesUnsigned 16 16 word r → result_ok r ≡ Some (digits_value 16 word)
mask_read word r mask parses =
    let both = and_parts (nat_eq (length word) 4) (list_all is_ascii_hexdigit word) mask in
    four word r (eqb-true (length word) 4 both.0) both.1 parses

pub mask_digits : (word : List ℕ) → length word ≡ 4 → list_all is_ascii_hexdigit word ≡ is_mask word
mask_digits word long = ap (λ b. b && list_all is_ascii_hexdigit word) (sym (eq-eqb (length word) 4 long))

-- the counts and the margin are the line
pub line_told : {X E : Type 0} (r : Result X E) (new between old : List ℕ) (code : Code) (bits a b g : ℕ) (m : Option ℕ)
    → a ≡ losses_in code A (bits_set bits) → b ≡ losses_in code B (bits_set bits) → g ≡ losses_in code G (bits_set bits) → m ≡ margin_of code (bits_set bits)
    → between ≡ old ++ counts_text a b g → OnOk r (new ≡ between ++ margin_text m) → OnOk r (new ≡ old ++ losses_line code bits)
unfolding losses_line
line_told (Ok x) new between old code bits a b g m of_a of_b of_g of_m counts margin =
    margin ∙ ap (λ t. t ++ margin_text m) counts ∙ append_assoc old (counts_text a b g) (margin_text m)
    ∙ ap (λ n. old ++ (counts_text n b g ++ margin_text m)) of_a
    ∙ ap (λ n. old ++ (counts_text (losses_in code A (bits_set bits)) n g ++ margin_text m)) of_b
    ∙ ap (λ n. old ++ (counts_text (losses_in code A (bits_set bits)) (losses_in code B (bits_set bits)) n ++ margin_text m)) of_g
    ∙ ap (λ o. old ++ (counts_text (losses_in code A (bits_set bits)) (losses_in code B (bits_set bits)) (losses_in code G (bits_set bits)) ++ margin_text o)) of_m
line_told (Err e) new between old code bits a b g m of_a of_b of_g of_m counts margin = tt
