-- Sums of bytes with coefficients, and the equation of each parity.
use Rattle.std.proofs.Common.{◌≡◌, ℕ, zero, suc, ◌+◌, ◌<◌, true, eqb, ltb, List, [], ◌∷◌, ◌++◌, bit_xor, refl, sym, ap, ◌∙◌, arith}
use Rattle.std.specs.List.{list_all}
use Rattle.std.proofs.lemmas.Bool.{eqb-true, ltb-true, and_parts}
use lib.Bits.{xor_assoc, xor_self, xor_zero_r}
use Rattle.lrc_code.specs.Codes.{data_count}
use Rattle.lrc_code.specs.declared.codes.Code.{Code}
use Rattle.lrc_code.specs.declared.codes.Code.TheVariants.{Wide, Narrow}
use Rattle.lrc_field.specs.Field.{times, times_by, times_x}
use Rattle.lrc_field.specs.Stripes.{Bytes, data_of, parities, numbers_of, in_parity, sum_of, IsStripe}
use Rattle.lrc_field.specs.Weights.{in_equation}
use Rattle.lrc_field.proofs.FieldLemmas.{xor_swap, times_assoc, xor-times, times-xor, times_zero, one_times, zero_times}

sum_of-append : (w : ℕ → ℕ) (v : Bytes) (xs ys : List ℕ) → sum_of w v (xs ++ ys) ≡ bit_xor (sum_of w v xs) (sum_of w v ys)
sum_of-append w v [] ys = refl
sum_of-append w v (x ∷ xs) ys = rw (sum_of-append w v xs ys) (sym (xor_assoc (times (w x) (v x)) (sum_of w v xs) (sum_of w v ys)))

pub sum_of-times : (a : ℕ) (w : ℕ → ℕ) (v : Bytes) → a < 256 → ((f : ℕ) → w f < 256) → ((f : ℕ) → v f < 256) → (fs : List ℕ) → sum_of (λ f. times a (w f)) v fs ≡ times a (sum_of w v fs)
sum_of-times a w v la lw lv [] = sym (times_zero a)
sum_of-times a w v la lw lv (f ∷ fs) =
    rw (times_assoc a (w f) (v f) la (lw f) (lv f), sum_of-times a w v la lw lv fs) (sym (times-xor a (times (w f) (v f)) (sum_of w v fs)))

pub sum_of-xor : (w u : ℕ → ℕ) (v : Bytes) → ((f : ℕ) → w f < 256) → ((f : ℕ) → u f < 256) → ((f : ℕ) → v f < 256) → (fs : List ℕ) → sum_of (λ f. bit_xor (w f) (u f)) v fs ≡ bit_xor (sum_of w v fs) (sum_of u v fs)
sum_of-xor w u v lw lu lv [] = refl
sum_of-xor w u v lw lu lv (f ∷ fs) =
    rw (xor-times (w f) (u f) (v f) (lw f) (lu f) (lv f), sum_of-xor w u v lw lu lv fs) (xor_swap (times (w f) (v f)) (times (u f) (v f)) (sum_of w v fs) (sum_of u v fs))

-- equal coefficients give equal sums
sum_of-same : (w u : ℕ → ℕ) (v : Bytes) (fs : List ℕ) → list_all (λ f. eqb (w f) (u f)) fs ≡ true → sum_of w v fs ≡ sum_of u v fs
sum_of-same w u v [] h = refl
sum_of-same w u v (f ∷ fs) h =
    let parts = and_parts (eqb (w f) (u f)) (list_all (λ f. eqb (w f) (u f)) fs) h in
    rw (eqb-true (w f) (u f) parts.0, sum_of-same w u v fs parts.1) refl

same_rows : (code : Code) (j : ℕ) → j < 4 → list_all (λ f. eqb (in_equation code j f) (in_parity code j f)) (data_of code) ≡ true
unfolding times times_by times_x
same_rows Wide zero l = refl
same_rows Wide (suc zero) l = refl
same_rows Wide (suc (suc zero)) l = refl
same_rows Wide (suc (suc (suc j))) l = refl
same_rows Narrow zero l = refl
same_rows Narrow (suc zero) l = refl
same_rows Narrow (suc (suc zero)) l = refl
same_rows Narrow (suc (suc (suc j))) l = refl

-- the parities' part of an equation is the parity
parity_part : (code : Code) (v : Bytes) → ((f : ℕ) → v f < 256) → (j : ℕ) → j < 4 → sum_of (in_equation code j) v (parities code) ≡ v (data_count code + j)
parity_part Wide v lv zero l = rw (one_times (v 12) (lv 12), zero_times (v 13) (lv 13), zero_times (v 14) (lv 14), zero_times (v 15) (lv 15)) (xor_zero_r (v 12))
parity_part Wide v lv (suc zero) l = rw (zero_times (v 12) (lv 12), one_times (v 13) (lv 13), zero_times (v 14) (lv 14), zero_times (v 15) (lv 15)) (xor_zero_r (v 13))
parity_part Wide v lv (suc (suc zero)) l = rw (zero_times (v 12) (lv 12), zero_times (v 13) (lv 13), one_times (v 14) (lv 14), zero_times (v 15) (lv 15)) (xor_zero_r (v 14))
parity_part Wide v lv (suc (suc (suc zero))) l = rw (zero_times (v 12) (lv 12), zero_times (v 13) (lv 13), zero_times (v 14) (lv 14), one_times (v 15) (lv 15)) (xor_zero_r (v 15))
parity_part Wide v lv (suc (suc (suc (suc j)))) l = absurd (omega (arith, l))
parity_part Narrow v lv zero l = rw (one_times (v 6) (lv 6), zero_times (v 7) (lv 7), zero_times (v 8) (lv 8), zero_times (v 9) (lv 9)) (xor_zero_r (v 6))
parity_part Narrow v lv (suc zero) l = rw (zero_times (v 6) (lv 6), one_times (v 7) (lv 7), zero_times (v 8) (lv 8), zero_times (v 9) (lv 9)) (xor_zero_r (v 7))
parity_part Narrow v lv (suc (suc zero)) l = rw (zero_times (v 6) (lv 6), zero_times (v 7) (lv 7), one_times (v 8) (lv 8), zero_times (v 9) (lv 9)) (xor_zero_r (v 8))
parity_part Narrow v lv (suc (suc (suc zero))) l = rw (zero_times (v 6) (lv 6), zero_times (v 7) (lv 7), zero_times (v 8) (lv 8), one_times (v 9) (lv 9)) (xor_zero_r (v 9))
parity_part Narrow v lv (suc (suc (suc (suc j)))) l = absurd (omega (arith, l))

-- each parity equation holds in a stripe
pub checked : (code : Code) (v : Bytes) → IsStripe code v → (j : ℕ) → j < 4 → sum_of (in_equation code j) v (numbers_of code) ≡ 0
checked code v s j l =
    sum_of-append (in_equation code j) v (data_of code) (parities code)
    ∙ ap (λ x. bit_xor x (sum_of (in_equation code j) v (parities code))) (sum_of-same (in_equation code j) (in_parity code j) v (data_of code) (same_rows code j l) ∙ sym (s.encoded j l))
    ∙ ap (bit_xor (v (data_count code + j))) (parity_part code v s.bytes j l)
    ∙ xor_self (v (data_count code + j))

-- coefficients that agree give equal sums
pub sum_of-agree : (w u : ℕ → ℕ) (v : Bytes) (n : ℕ) → ((g : ℕ) → g < n → w g ≡ u g) → (fs : List ℕ) → list_all (λ g. ltb g n) fs ≡ true → sum_of w v fs ≡ sum_of u v fs
sum_of-agree w u v n same [] h = refl
sum_of-agree w u v n same (f ∷ fs) h =
    let parts = and_parts (ltb f n) (list_all (λ g. ltb g n) fs) h in
    rw (same f (ltb-true f n parts.0), sum_of-agree w u v n same fs parts.1) refl
