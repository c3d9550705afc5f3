-- Any data has exactly one stripe, and the generator matrix gives it.
use Rattle.std.proofs.Common.{◌≡◌, ℕ, zero, suc, ◌+◌, ◌-◌, ◌<◌, ◌↔◌, Bool, true, false, ltb, eqb, nat_lt, nat_eq, if◌then◌else◌, List, [], ◌∷◌, bit_xor, refl, sym, ap, ◌∙◌, inl, inr, arith, lit<}
use Rattle.std.specs.List.{list_all}
use Rattle.std.proofs.lemmas.Bool.{cases_Bool, cases_lt, lt-ltb, le-ltb, ltb-true, eq-eqb, and_parts, agree_below, agree_below_at}
use lib.Bits.{xor_lt, xor_zero_r}
use Rattle.lrc_code.specs.declared.codes.Code.{Code}
use Rattle.lrc_code.specs.declared.codes.Code.TheVariants.{Wide, Narrow}
use Rattle.lrc_code.specs.Codes.{fragment_count, data_count}
use Rattle.lrc_field.specs.Field.{times, times_by, times_x}
use Rattle.lrc_field.specs.Stripes.{Bytes, data_of, in_parity, generator, sum_of, IsStripe, IsOfRows}
use Rattle.lrc_field.proofs.FieldLemmas.{times_below, zero_times}
use Rattle.lrc_field.proofs.MemberLemmas.{four_parities}
use Rattle.lrc_field.proofs.ValueLemmas.{once, rest, singled, sums_agree}

-- the data of a stripe, and each parity as its sum
encode : Code → Bytes → Bytes
encode code d f =
    if nat_lt f (data_count code) then d f
    else (if nat_lt f (fragment_count code) then sum_of (in_parity code (f - data_count code)) d (data_of code) else 0)

sum_of_below : (w : ℕ → ℕ) (d : Bytes) → ((f : ℕ) → d f < 256) → (fs : List ℕ) → list_all (λ f. ltb (w f) 256) fs ≡ true → sum_of w d fs < 256
sum_of_below w d ld [] h = lit< tt
sum_of_below w d ld (f ∷ fs) h =
    let p = and_parts (ltb (w f) 256) (list_all (λ f. ltb (w f) 256) fs) h in
    xor_lt 8 (times (w f) (d f)) (sum_of w d fs) (times_below (w f) (d f) (ltb-true (w f) 256 p.0) (ld f)) (sum_of_below w d ld fs p.1)

row_bytes : (code : Code) (j : ℕ) → list_all (λ f. ltb (in_parity code j f) 256) (data_of code) ≡ true
unfolding times times_by times_x
row_bytes Wide zero = refl
row_bytes Wide (suc zero) = refl
row_bytes Wide (suc (suc zero)) = refl
row_bytes Wide (suc (suc (suc j))) = refl
row_bytes Narrow zero = refl
row_bytes Narrow (suc zero) = refl
row_bytes Narrow (suc (suc zero)) = refl
row_bytes Narrow (suc (suc (suc j))) = refl

rows : (code : Code) (d : Bytes) (j : ℕ) → j < 4 → encode code d (data_count code + j) ≡ sum_of (in_parity code j) (encode code d) (data_of code)
unfolding encode
rows Wide d zero l = refl
rows Wide d (suc zero) l = refl
rows Wide d (suc (suc zero)) l = refl
rows Wide d (suc (suc (suc zero))) l = refl
rows Wide d (suc (suc (suc (suc j)))) l = absurd (omega (arith, l))
rows Narrow d zero l = refl
rows Narrow d (suc zero) l = refl
rows Narrow d (suc (suc zero)) l = refl
rows Narrow d (suc (suc (suc zero))) l = refl
rows Narrow d (suc (suc (suc (suc j)))) l = absurd (omega (arith, l))

small : (b c : Bool) (x y : ℕ) → x < 256 → y < 256 → (if b then x else (if c then y else 0)) < 256
small true c x y lx ly = lx
small false true x y lx ly = ly
small false false x y lx ly = lit< tt

encoded_bytes : (code : Code) (d : Bytes) → ((f : ℕ) → d f < 256) → (f : ℕ) → encode code d f < 256
unfolding encode
encoded_bytes code d ld f =
    small (nat_lt f (data_count code)) (nat_lt f (fragment_count code)) (d f) (sum_of (in_parity code (f - data_count code)) d (data_of code)) (ld f)
    (sum_of_below (in_parity code (f - data_count code)) d ld (data_of code) (row_bytes code (f - data_count code)))

keeps_data : (code : Code) (d : Bytes) (f : ℕ) → f < data_count code → encode code d f ≡ d f
unfolding encode
keeps_data code d f l = rw (lt-ltb f (data_count code) l) refl

pub some_stripe : (code : Code) (d : Bytes) → ((f : ℕ) → d f < 256) → (v : Bytes) × IsStripe code v × ((f : ℕ) → f < data_count code → v f ≡ d f)
some_stripe code d ld = (encode code d, record { bytes = encoded_bytes code d ld; encoded = rows code d }, keeps_data code d)

data_below : (code : Code) → list_all (λ g. ltb g (data_count code)) (data_of code) ≡ true
data_below Wide = refl
data_below Narrow = refl

same_sum : (code : Code) (v w : Bytes) → IsStripe code v → IsStripe code w → ((d : ℕ) → d < data_count code → v d ≡ w d) → (c : ℕ → ℕ) → sum_of c v (data_of code) ≡ sum_of c w (data_of code)
same_sum code v w sv sw same c = sums_agree c v w (data_count code) sv.bytes sw.bytes (λ g few. inr (same g few)) (data_of code) (data_below code)

pub one_stripe : (code : Code) (v w : Bytes) → IsStripe code v → IsStripe code w → ((d : ℕ) → d < data_count code → v d ≡ w d) → (f : ℕ) → f < fragment_count code → v f ≡ w f
one_stripe code v w sv sw same f within = elim (cases_lt f (data_count code)) [
  | inl low ↦ same f low
  | inr high ↦
      let count = four_parities code in
      let few : f - data_count code < 4 = omega (arith, within, high, count) in
      let is : f ≡ data_count code + (f - data_count code) = omega (arith, high) in
      ap v is ∙ sv.encoded (f - data_count code) few ∙ same_sum code v w sv sw same (in_parity code (f - data_count code)) ∙ sym (sw.encoded (f - data_count code) few) ∙ ap w (sym is)
]

-- ---- the generator matrix

-- the row of a data fragment is 1 at itself
unit : ℕ → ℕ → ℕ
unit f d = if nat_eq d f then 1 else 0

only_zeros : (f : ℕ) (v : Bytes) → ((g : ℕ) → v g < 256) → (fs : List ℕ) → sum_of (rest (unit f) f) v fs ≡ 0
unfolding unit
only_zeros f v lv [] = refl
only_zeros f v lv (x ∷ xs) = elim (cases_Bool (eqb x f)) [
  | inl here ↦ rw (here, zero_times (v x) (lv x), only_zeros f v lv xs) refl
  | inr other ↦ rw (other, zero_times (v x) (lv x), only_zeros f v lv xs) refl
]

data_once : (code : Code) → agree_below (λ f. once f (data_of code)) (λ _. true) (data_count code) ≡ true
data_once Wide = refl
data_once Narrow = refl

unit_own : (f : ℕ) → unit f f ≡ 1
unfolding unit
unit_own f = rw (eq-eqb f f refl) refl

unit_row : (code : Code) (v : Bytes) → ((g : ℕ) → v g < 256) → (f : ℕ) → f < data_count code → sum_of (unit f) v (data_of code) ≡ v f
unit_row code v lv f low =
    singled (unit f) v f (unit_own f) lv (data_of code) (agree_below_at (λ f. once f (data_of code)) (λ _. true) (data_count code) f (data_once code) low)
    ∙ ap (bit_xor (v f)) (only_zeros f v lv (data_of code)) ∙ xor_zero_r (v f)

data_row : (code : Code) (f d : ℕ) → f < data_count code → generator code f d ≡ unit f d
unfolding unit
data_row code f d low = rw (lt-ltb f (data_count code) low) refl

parity_row : (code : Code) (j d : ℕ) → generator code (data_count code + j) d ≡ in_parity code j d
parity_row code j d =
    let past : ltb (data_count code + j) (data_count code) ≡ false = le-ltb (data_count code + j) (data_count code) (omega arith) in
    let is : data_count code + j - data_count code ≡ j = omega arith in
    rw (past, is) refl

sum_of-each : (w u : ℕ → ℕ) (v : Bytes) → ((d : ℕ) → w d ≡ u d) → (fs : List ℕ) → sum_of w v fs ≡ sum_of u v fs
sum_of-each w u v same [] = refl
sum_of-each w u v same (f ∷ fs) = rw (same f, sum_of-each w u v same fs) refl

-- a stripe is what the rows give
pub of_rows : (code : Code) (v : Bytes) → IsStripe code v ↔ IsOfRows code v
of_rows code v = (to, from) where
  to : IsStripe code v → IsOfRows code v
  to stripe = record {
    bytes = stripe.bytes;
    encoded = λ f within. elim (cases_lt f (data_count code)) [
      | inl low ↦ sym (unit_row code v stripe.bytes f low) ∙ sym (sum_of-each (generator code f) (unit f) v (λ d. data_row code f d low) (data_of code))
      | inr high ↦
          let count = four_parities code in
          let j = f - data_count code in
          let is : f ≡ data_count code + j = omega (arith, high) in
          ap v is ∙ stripe.encoded j (omega (arith, within, high, count)) ∙ sym (sum_of-each (generator code (data_count code + j)) (in_parity code j) v (parity_row code j) (data_of code)) ∙ ap (λ f. sum_of (generator code f) v (data_of code)) (sym is)
    ];
  }

  from : IsOfRows code v → IsStripe code v
  from rowed = record {
    bytes = rowed.bytes;
    encoded = λ j few. rowed.encoded (data_count code + j) (let count = four_parities code in omega (arith, few, count)) ∙ sum_of-each (generator code (data_count code + j)) (in_parity code j) v (parity_row code j) (data_of code);
  }
