-- The sum of the four equations, each times its weight, and one fragment by the others.
use Rattle.std.proofs.Common.{◌≡◌, ℕ, zero, suc, ◌+◌, ◌<◌, ◌⊎◌, Bool, true, false, if◌then◌else◌, not, eqb, ltb, nat_eq, List, [], ◌∷◌, bit_xor, refl, sym, ap, ◌∙◌, inl, inr, lit<}
use Rattle.std.specs.List.{list_all}
use Rattle.std.proofs.lemmas.Bool.{cases_Bool, eqb-true, ltb-true, and_parts, agree_below, agree_below_at}
use lib.Bits.{xor_assoc, xor_comm, xor_zero_r, xor_lt}
use Rattle.lrc_code.specs.declared.codes.Code.{Code}
use Rattle.lrc_code.specs.declared.codes.Code.TheVariants.{Wide, Narrow}
use Rattle.lrc_code.specs.Codes.{fragment_count, data_count}
use Rattle.lrc_field.specs.Field.{times, times_by, times_x}
use Rattle.lrc_field.specs.Stripes.{Bytes, numbers_of, in_parity, sum_of, IsStripe}
use Rattle.lrc_field.specs.Weights.{Weights, in_equation, value_at, scaled}
use Rattle.lrc_field.proofs.FieldLemmas.{xor_twice, times_assoc, times-xor, times_zero, one_times, zero_times, times_below}
use Rattle.lrc_field.proofs.SumLemmas.{sum_of-times, sum_of-xor, checked}

in_parity_bytes : (code : Code) (j : ℕ) → j < 4 → agree_below (λ f. ltb (in_parity code j f) 256) (λ _. true) (data_count code) ≡ true
unfolding times times_by times_x
in_parity_bytes Wide zero l = refl
in_parity_bytes Wide (suc zero) l = refl
in_parity_bytes Wide (suc (suc zero)) l = refl
in_parity_bytes Wide (suc (suc (suc j))) l = refl
in_parity_bytes Narrow zero l = refl
in_parity_bytes Narrow (suc zero) l = refl
in_parity_bytes Narrow (suc (suc zero)) l = refl
in_parity_bytes Narrow (suc (suc (suc j))) l = refl

one_or_none : (b : Bool) → (if b then 1 else 0) < 256
one_or_none true = lit< tt
one_or_none false = lit< tt

pub in_equation_below : (code : Code) (j : ℕ) → j < 4 → (f : ℕ) → in_equation code j f < 256
in_equation_below code j l f = elim (cases_Bool (ltb f (data_count code))) [
  | inl hit ↦ rw hit (ltb-true (in_parity code j f) 256 (agree_below_at (λ f. ltb (in_parity code j f) 256) (λ _. true) (data_count code) f (in_parity_bytes code j l) (ltb-true f (data_count code) hit)))
  | inr miss ↦ rw miss (one_or_none (nat_eq f (data_count code + j)))
]

-- four weights that are bytes
pub record AreBytes (w : Weights) : Type 0 where
  pub local_a : w.local_a < 256
  pub local_b : w.local_b < 256
  pub global : w.global < 256
  pub square : w.square < 256

module _ (code : Code) (w : Weights) (small : AreBytes w) where
  row : (j x : ℕ) → j < 4 → x < 256 → (f : ℕ) → times x (in_equation code j f) < 256
  row j x l s f = times_below x (in_equation code j f) s (in_equation_below code j l f)

  two : (f : ℕ) → bit_xor (times w.global (in_equation code 2 f)) (times w.square (in_equation code 3 f)) < 256
  two f = xor_lt 8 _ _ (row 2 w.global (lit< tt) small.global f) (row 3 w.square (lit< tt) small.square f)

  three : (f : ℕ) → bit_xor (times w.local_b (in_equation code 1 f)) (bit_xor (times w.global (in_equation code 2 f)) (times w.square (in_equation code 3 f))) < 256
  three f = xor_lt 8 _ _ (row 1 w.local_b (lit< tt) small.local_b f) (two f)

  pub value_below : (f : ℕ) → value_at code w f < 256
  unfolding value_at
  value_below f = xor_lt 8 _ _ (row 0 w.local_a (lit< tt) small.local_a f) (three f)

  no_row : (v : Bytes) → IsStripe code v → (j x : ℕ) → j < 4 → x < 256 → sum_of (λ f. times x (in_equation code j f)) v (numbers_of code) ≡ 0
  no_row v s j x l sx = sum_of-times x (in_equation code j) v sx (in_equation_below code j l) s.bytes (numbers_of code) ∙ ap (times x) (checked code v s j l) ∙ times_zero x

  -- the combination of the parity equations is zero in a stripe
  pub value_sum : (v : Bytes) → IsStripe code v → sum_of (value_at code w) v (numbers_of code) ≡ 0
  unfolding value_at
  value_sum v s =
      sum_of-xor (λ f. times w.local_a (in_equation code 0 f)) (λ f. bit_xor (times w.local_b (in_equation code 1 f)) (bit_xor (times w.global (in_equation code 2 f)) (times w.square (in_equation code 3 f)))) v (row 0 w.local_a (lit< tt) small.local_a) three s.bytes (numbers_of code)
      ∙ ap (λ x. bit_xor x (sum_of (λ f. bit_xor (times w.local_b (in_equation code 1 f)) (bit_xor (times w.global (in_equation code 2 f)) (times w.square (in_equation code 3 f)))) v (numbers_of code))) (no_row v s 0 w.local_a (lit< tt) small.local_a)
      ∙ sum_of-xor (λ f. times w.local_b (in_equation code 1 f)) (λ f. bit_xor (times w.global (in_equation code 2 f)) (times w.square (in_equation code 3 f))) v (row 1 w.local_b (lit< tt) small.local_b) two s.bytes (numbers_of code)
      ∙ ap (λ x. bit_xor x (sum_of (λ f. bit_xor (times w.global (in_equation code 2 f)) (times w.square (in_equation code 3 f))) v (numbers_of code))) (no_row v s 1 w.local_b (lit< tt) small.local_b)
      ∙ sum_of-xor (λ f. times w.global (in_equation code 2 f)) (λ f. times w.square (in_equation code 3 f)) v (row 2 w.global (lit< tt) small.global) (row 3 w.square (lit< tt) small.square) s.bytes (numbers_of code)
      ∙ ap (λ x. bit_xor x (sum_of (λ f. times w.square (in_equation code 3 f)) v (numbers_of code))) (no_row v s 2 w.global (lit< tt) small.global)
      ∙ no_row v s 3 w.square (lit< tt) small.square

  -- weights times one element give values times that element
  pub value-scaled : (i : ℕ) → i < 256 → (f : ℕ) → value_at code (scaled i w) f ≡ times i (value_at code w f)
  unfolding value_at
  value-scaled i l f =
      let c0 = in_equation code 0 f in
      let c1 = in_equation code 1 f in
      let c2 = in_equation code 2 f in
      let c3 = in_equation code 3 f in
      ap (λ x. bit_xor x (bit_xor (times (times i w.local_b) c1) (bit_xor (times (times i w.global) c2) (times (times i w.square) c3)))) (times_assoc i w.local_a c0 l small.local_a (in_equation_below code 0 (lit< tt) f))
      ∙ ap (λ x. bit_xor (times i (times w.local_a c0)) (bit_xor x (bit_xor (times (times i w.global) c2) (times (times i w.square) c3)))) (times_assoc i w.local_b c1 l small.local_b (in_equation_below code 1 (lit< tt) f))
      ∙ ap (λ x. bit_xor (times i (times w.local_a c0)) (bit_xor (times i (times w.local_b c1)) (bit_xor x (times (times i w.square) c3)))) (times_assoc i w.global c2 l small.global (in_equation_below code 2 (lit< tt) f))
      ∙ ap (λ x. bit_xor (times i (times w.local_a c0)) (bit_xor (times i (times w.local_b c1)) (bit_xor (times i (times w.global c2)) x))) (times_assoc i w.square c3 l small.square (in_equation_below code 3 (lit< tt) f))
      ∙ sym (times-xor i (times w.local_a c0) (bit_xor (times w.local_b c1) (bit_xor (times w.global c2) (times w.square c3)))
      ∙ ap (bit_xor (times i (times w.local_a c0))) (times-xor i (times w.local_b c1) (bit_xor (times w.global c2) (times w.square c3))
      ∙ ap (bit_xor (times i (times w.local_b c1))) (times-xor i (times w.global c2) (times w.square c3))))

-- ---- one fragment by the others

-- the coefficients of all but the fragment
abbrev pub rest : (ℕ → ℕ) → ℕ → ℕ → ℕ
rest r f g = if nat_eq g f then 0 else r g

-- the list has the number exactly once
abbrev pub once : ℕ → List ℕ → Bool
once f [] = false
once f (x ∷ xs) = if nat_eq x f then list_all (λ y. not (nat_eq y f)) xs else once f xs

rest_absent : (r : ℕ → ℕ) (v : Bytes) (f : ℕ) (fs : List ℕ) → list_all (λ y. not (nat_eq y f)) fs ≡ true → sum_of (rest r f) v fs ≡ sum_of r v fs
rest_absent r v f [] h = refl
rest_absent r v f (x ∷ xs) h = elim (cases_Bool (eqb x f)) [
  | inl same ↦ absurd (let parts = and_parts (not (eqb x f)) (list_all (λ y. not (nat_eq y f)) xs) h in let e : not true ≡ true = rw same at parts.0 in cc)
  | inr other ↦ let parts = and_parts (not (eqb x f)) (list_all (λ y. not (nat_eq y f)) xs) h in rw (other, rest_absent r v f xs parts.1) refl
]

xor_turn : (a b c : ℕ) → bit_xor a (bit_xor b c) ≡ bit_xor b (bit_xor a c)
xor_turn a b c = sym (xor_assoc a b c) ∙ ap (λ x. bit_xor x c) (xor_comm a b) ∙ xor_assoc b a c

-- the sum is the fragment and the sum of the rest
pub singled : (r : ℕ → ℕ) (v : Bytes) (f : ℕ) → r f ≡ 1 → ((g : ℕ) → v g < 256) → (fs : List ℕ) → once f fs ≡ true → sum_of r v fs ≡ bit_xor (v f) (sum_of (rest r f) v fs)
singled r v f one lv [] h = absurd (let e : false ≡ true = h in cc)
singled r v f one lv (x ∷ xs) h = elim (cases_Bool (eqb x f)) [
  | inl same ↦
      let at : x ≡ f = eqb-true x f same in
      let tail : list_all (λ y. not (nat_eq y f)) xs ≡ true = rw same at h in
      let here : times (r x) (v x) ≡ v f = ap (λ y. times (r y) (v y)) at ∙ ap (λ y. times y (v f)) one ∙ one_times (v f) (lv f) in
      rw (same, here, rest_absent r v f xs tail, zero_times (v x) (lv x)) refl
  | inr other ↦
      let tail : once f xs ≡ true = rw other at h in
      rw (other, singled r v f one lv xs tail) (xor_turn (times (r x) (v x)) (v f) (sum_of (rest r f) v xs))
]

pub fragments_once : (code : Code) → agree_below (λ f. once f (numbers_of code)) (λ _. true) (fragment_count code) ≡ true
fragments_once Wide = refl
fragments_once Narrow = refl

-- weights that are 1 at a fragment give it as a sum of the others
pub rebuilt : (code : Code) (w : Weights) → AreBytes w → (f : ℕ) → f < fragment_count code → value_at code w f ≡ 1 → (v : Bytes) → IsStripe code v →
    v f ≡ sum_of (rest (value_at code w) f) v (numbers_of code)
rebuilt code w small f within one v s =
    let none = value_sum code w small v s in
    let split = singled (value_at code w) v f one s.bytes (numbers_of code) (agree_below_at (λ f. once f (numbers_of code)) (λ _. true) (fragment_count code) f (fragments_once code) within) in
    let sum = sum_of (rest (value_at code w) f) v (numbers_of code) in
    let zero_sum : bit_xor (v f) sum ≡ 0 = sym split ∙ none in
    sym (xor_zero_r (v f)) ∙ ap (bit_xor (v f)) (sym zero_sum) ∙ xor_twice (v f) sum

-- sums of bytes that agree where the coefficient is not zero are equal
pub sums_agree : (r : ℕ → ℕ) (v w : Bytes) (n : ℕ) → ((g : ℕ) → v g < 256) → ((g : ℕ) → w g < 256) → ((g : ℕ) → g < n → (r g ≡ 0) ⊎ (v g ≡ w g)) → (fs : List ℕ) → list_all (λ g. ltb g n) fs ≡ true → sum_of r v fs ≡ sum_of r w fs
sums_agree r v w n lv lw same [] h = refl
sums_agree r v w n lv lw same (x ∷ xs) h =
    let parts = and_parts (ltb x n) (list_all (λ g. ltb g n) xs) h in
    let tail = sums_agree r v w n lv lw same xs parts.1 in
    elim (same x (ltb-true x n parts.0)) [
      | inl none ↦ rw (none, zero_times (v x) (lv x), zero_times (w x) (lw x), tail) refl
      | inr equal ↦ rw (equal, tail) refl
    ]
