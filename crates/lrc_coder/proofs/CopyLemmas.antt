-- The sum that a copy makes.
use Rattle.std.proofs.Common.{◌≡◌, ◌≢◌, ℕ, zero, suc, ◌+◌, ◌*◌, ◌/◌, ◌%◌, ◌<◌, List, get_or, replicate, bit_xor, refl, sym, ap, ◌∙◌, inl, inr, arith}
use Rattle.std.specs.Prelude.{IsTrue}
use Rattle.std.specs.List.{range_with_len}
use Rattle.std.proofs.lemmas.Bool.{cases_eq, cases_lt}
use Rattle.std.proofs.lemmas.List.{get_or-set_same, get_or-set_other, get_or-replicate, get_or_past}
use lib.Bits.{xor_zero_r}
use Rattle.lrc_code.specs.declared.codes.Code.{Code}
use Rattle.lrc_code.specs.Codes.{fragment_count}
use Rattle.lrc_field.specs.Field.{times, times_by, times_x}
use Rattle.lrc_field.specs.Recipes.{read_by, only_itself}
use Rattle.lrc_field.specs.Stripes.{Bytes, sum_of}
use Rattle.lrc_field.proofs.MemberLemmas.{at_most_sixteen}
use Rattle.lrc_coder.specs.Buffers.{each_of}
use Rattle.lrc_coder.proofs.SumLemmas.{zero_by, sum_of-more, sum_without}

-- the product of 1 and anything
times_one : (a : ℕ) → times 1 a ≡ a
unfolding times times_by
times_one a = let p : 1 % 2 * a ≡ a = omega arith in let q : 1 / 2 ≡ 0 = omega arith in rw (p, q, zero_by 7 (times_x a)) (xor_zero_r a)

none_below : (w : ℕ → ℕ) (v : Bytes) (n : ℕ) → ((g : ℕ) → g < n → w g ≡ 0) → sum_of w v (range_with_len 0 n) ≡ 0
none_below w v zero none = refl
none_below w v (suc n) none =
    let p : suc n ≡ n + 1 = omega arith in
    ap (λ k. sum_of w v (range_with_len 0 k)) p ∙ (sym (sum_without w v n (none n (omega arith))) ∙ none_below w v n (λ g low. none g (omega (arith, low))))

-- the sum of which one coefficient is 1 and the others 0
sum_of-one : (w : ℕ → ℕ) (v : Bytes) (f : ℕ) → w f ≡ 1 → ((g : ℕ) → g ≢ f → w g ≡ 0) → (n : ℕ) → f < n → sum_of w v (range_with_len 0 n) ≡ v f
sum_of-one w v f one none zero low = absurd (omega (arith, low))
sum_of-one w v f one none (suc n) low =
    let p : suc n ≡ n + 1 = omega arith in
    ap (λ k. sum_of w v (range_with_len 0 k)) p ∙ (elim (cases_eq f n) [
      | inr other ↦ sym (sum_without w v n (none n (λ same. other (sym same)))) ∙ sum_of-one w v f one none n (omega (arith, low, other))
      | inl here ↦
          let before = none_below w v n (λ g under. none g (λ same. (let e : g ≡ n = same ∙ here in omega (arith, under, e)))) in
          let last : times (w n) (v n) ≡ v f = ap (λ k. times (w k) (v k)) (sym here) ∙ (ap (λ k. times k (v f)) one ∙ times_one (v f)) in
          sum_of-more w v n ∙ (ap (λ s. bit_xor s (times (w n) (v n))) before ∙ last)
    ])

-- ---- a copy

own : (f : ℕ) → f < 16 → each_of (only_itself f) f ≡ 1
own f low = get_or-set_same (replicate {A = ℕ} 16 0) f 1 0 low

all_none : (g : ℕ) → get_or {A = ℕ} (replicate 16 0) g 0 ≡ 0
all_none g = elim (cases_lt g 16) [
  | inl low ↦ get_or-replicate {A = ℕ} 16 g 0 0 low
  | inr high ↦ get_or_past (replicate {A = ℕ} 16 0) g 0 high
]

other : (f g : ℕ) → g ≢ f → each_of (only_itself f) g ≡ 0
other f g apart = get_or-set_other (replicate {A = ℕ} 16 0) f g 1 0 apart ∙ all_none g

-- the coefficients of a copy make the fragment
pub copied_sum : (code : Code) (coefficients : List ℕ) (v : Bytes) (f : ℕ) → f < fragment_count code → coefficients ≡ only_itself f → sum_of (each_of coefficients) v (range_with_len 0 (fragment_count code)) ≡ v f
copied_sum code coefficients v f within is =
    let sixteen = at_most_sixteen code in
    ap (λ (cs : List ℕ). sum_of (each_of cs) v (range_with_len 0 (fragment_count code))) is
    ∙ sum_of-one (each_of (only_itself f)) v f (own f (omega (arith, within, sixteen))) (other f) (fragment_count code) within

-- the fragment is read
pub copy_reads : (code : Code) (coefficients : List ℕ) (f : ℕ) → f < fragment_count code → coefficients ≡ only_itself f → IsTrue (read_by (each_of coefficients) f)
copy_reads code coefficients f within is =
    let sixteen = at_most_sixteen code in
    let one : each_of coefficients f ≡ 1 = ap (λ (cs : List ℕ). each_of cs f) is ∙ own f (omega (arith, within, sixteen)) in
    rw one refl
