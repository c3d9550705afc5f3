-- A set that is not recoverable has two stripes that differ only there.
use Rattle.std.proofs.Common.{◌≡◌, ℕ, ◌+◌, ◌<◌, Bool, true, false, if◌then◌else◌, not, eqb, ltb, nat_eq, List, [], ◌∷◌, ◌++◌, bit_xor, refl, ap, ◌∙◌, inl, inr, lit<, ◌&&◌, ◌||◌}
use Rattle.std.specs.List.{list_all, list_any}
use Rattle.std.proofs.lemmas.Bool.{cases_Bool, eqb-true, ltb-true, and_parts}
use lib.Bits.{xor_lt}
use Rattle.lrc_code.specs.declared.codes.Code.{Code}
use Rattle.lrc_code.specs.declared.codes.Code.TheVariants.{Wide, Narrow}
use Rattle.lrc_code.specs.declared.codes.Class.TheVariants.{A, B, G}
use Rattle.lrc_code.specs.Codes.{members, data_count}
use Rattle.lrc_field.specs.Field.{times, times_by, times_x}
use Rattle.lrc_field.specs.Stripes.{Bytes, data_of, numbers_of, in_parity, sum_of}
use Rattle.lrc_field.specs.Weights.{place}
use Rattle.lrc_field.proofs.FieldLemmas.{times_zero}
use Rattle.lrc_field.proofs.SublistLemmas.{each, each-suc, excess_by}

-- one loss or two of one group, and their part in the two global equations
pub record Part : Type 0 where
  pub x : ℕ
  pub y : ℕ
  pub p : ℕ
  pub q : ℕ

pub with_first : Code → ℕ → List ℕ → List Part
with_first code x [] = []
with_first code x (y ∷ ys) = (let p = bit_xor (place code x) (place code y) in record { x = x; y = y; p = p; q = times p p }) ∷ with_first code x ys

pub group_parts : Code → List ℕ → List Part
group_parts code [] = []
group_parts code (x ∷ xs) = with_first code x xs

pub global_parts : Code → List ℕ → List Part
global_parts code [] = []
global_parts code (g ∷ gs) = record { x = 99; y = g; p = if nat_eq g (data_count code + 2) then 1 else 0; q = if nat_eq g (data_count code + 2) then 0 else 1 } ∷ global_parts code gs

pub det : Part → Part → ℕ
det r s = bit_xor (times r.p s.q) (times r.q s.p)

abbrev pub at_part : Part → ℕ → ℕ → ℕ
at_part r d g = if nat_eq g r.x || nat_eq g r.y then d else 0

-- three parts, each times the determinant of the other two
abbrev pub kernel_by : Part → Part → Part → ℕ → ℕ → ℕ → Bytes
kernel_by r s t d e f g = bit_xor (at_part r d g) (bit_xor (at_part s e g) (at_part t f g))

-- the sum_of sum, with no product where the byte is zero
unfoldable pub sparse : (ℕ → ℕ) → Bytes → List ℕ → ℕ
sparse w v [] = 0
sparse w v (f ∷ fs) = bit_xor (elim (eqb (v f) 0) [ true ↦ 0 | false ↦ times (w f) (v f) ]) (sparse w v fs)

pub sparse-sum_of : (w : ℕ → ℕ) (v : Bytes) (fs : List ℕ) → sparse w v fs ≡ sum_of w v fs
unfolding sparse
sparse-sum_of w v [] = refl
sparse-sum_of w v (f ∷ fs) = elim (cases_Bool (eqb (v f) 0)) [
  | inl none ↦ let z : times (w f) (v f) ≡ 0 = ap (times (w f)) (eqb-true (v f) 0 none) ∙ times_zero (w f) in rw (none, z, sparse-sum_of w v fs) refl
  | inr some ↦ rw (some, sparse-sum_of w v fs) refl
]

abbrev pub is_within : List ℕ → List ℕ → List ℕ → ℕ → Bool
is_within la lb lg g = list_any (eqb g) la || (list_any (eqb g) lb || list_any (eqb g) lg)

abbrev pub encodes : Code → Bytes → ℕ → Bool
encodes code v j = eqb (v (data_count code + j)) (sparse (in_parity code j) v (data_of code))

-- the bytes are a stripe's, are zero outside of the three lists, and are not all zero
unfoldable pub tests : Code → List ℕ → List ℕ → List ℕ → Bytes → Bool
tests code la lb lg v =
    (encodes code v 0 && (encodes code v 1 && (encodes code v 2 && encodes code v 3)))
    && (list_all (λ g. eqb (v g) 0 || is_within la lb lg g) (numbers_of code) && list_any (λ g. not (eqb (v g) 0)) (numbers_of code))

pub record Kernel (code : Code) (la lb lg : List ℕ) : Type 0 where
  pub v : Bytes
  pub bytes : (g : ℕ) → v g < 256
  pub tested : tests code la lb lg v ≡ true

unfoldable pub has_three : Code → List ℕ → List ℕ → List ℕ → List Part → Bool
has_three code la lb lg (r ∷ s ∷ t ∷ rest) =
    let d = det s t in
    let e = det r t in
    let f = det r s in
    (ltb d 256 && (ltb e 256 && ltb f 256)) && tests code la lb lg (kernel_by r s t d e f)
has_three code la lb lg parts = false

part_byte : (r : Part) (d : ℕ) → d < 256 → (g : ℕ) → at_part r d g < 256
part_byte r d l g = byte_if (nat_eq g r.x || nat_eq g r.y) where
  byte_if : (b : Bool) → (if b then d else 0) < 256
  byte_if true = l
  byte_if false = lit< tt

pub kernel_of : (code : Code) (la lb lg : List ℕ) (parts : List Part) → has_three code la lb lg parts ≡ true → Kernel code la lb lg
unfolding has_three
kernel_of code la lb lg (r ∷ s ∷ t ∷ rest) h =
    let d = det s t in
    let e = det r t in
    let f = det r s in
    let p = and_parts (ltb d 256 && (ltb e 256 && ltb f 256)) (tests code la lb lg (kernel_by r s t d e f)) h in
    let q = and_parts (ltb d 256) (ltb e 256 && ltb f 256) p.0 in
    let z = and_parts (ltb e 256) (ltb f 256) q.1 in
    record {
      v = kernel_by r s t d e f;
      bytes = λ g. xor_lt 8 _ _ (part_byte r d (ltb-true d 256 q.0) g) (xor_lt 8 _ _ (part_byte s e (ltb-true e 256 z.0) g) (part_byte t f (ltb-true f 256 z.1) g));
      tested = p.1;
    }
kernel_of code la lb lg [] h = absurd (let e : false ≡ true = h in cc)
kernel_of code la lb lg (r ∷ []) h = absurd (let e : false ≡ true = h in cc)
kernel_of code la lb lg (r ∷ s ∷ []) h = absurd (let e : false ≡ true = h in cc)

unfoldable pub has_kernel : Code → List ℕ → List ℕ → List ℕ → Bool
has_kernel code la lb lg = has_three code la lb lg (group_parts code la ++ (group_parts code lb ++ global_parts code lg))

unfoldable pub three_over : Code → List ℕ → List ℕ → List ℕ → Bool
three_over code la lb lg = elim (eqb (excess_by la lb lg) 3) [ true ↦ has_kernel code la lb lg | false ↦ true ]

unfoldable pub over_a : Code → List ℕ → Bool
over_a code la = each (λ lb. each (three_over code la lb) 2 (members code G)) 4 (members code B)

wide_0 : each (λ l. over_a Wide (0 ∷ l)) 3 (1 ∷ 2 ∷ 3 ∷ 4 ∷ 5 ∷ 12 ∷ []) ≡ true
unfolding over_a three_over has_kernel has_three group_parts with_first global_parts tests sparse det times times_by times_x
wide_0 = refl

wide_1 : each (λ l. over_a Wide (1 ∷ l)) 3 (2 ∷ 3 ∷ 4 ∷ 5 ∷ 12 ∷ []) ≡ true
unfolding over_a three_over has_kernel has_three group_parts with_first global_parts tests sparse det times times_by times_x
wide_1 = refl

wide_2 : each (λ l. over_a Wide (2 ∷ l)) 3 (3 ∷ 4 ∷ 5 ∷ 12 ∷ []) ≡ true
unfolding over_a three_over has_kernel has_three group_parts with_first global_parts tests sparse det times times_by times_x
wide_2 = refl

wide_3 : each (λ l. over_a Wide (3 ∷ l)) 3 (4 ∷ 5 ∷ 12 ∷ []) ≡ true
unfolding over_a three_over has_kernel has_three group_parts with_first global_parts tests sparse det times times_by times_x
wide_3 = refl

wide_4 : each (λ l. over_a Wide (4 ∷ l)) 3 (5 ∷ 12 ∷ []) ≡ true
unfolding over_a three_over has_kernel has_three group_parts with_first global_parts tests sparse det times times_by times_x
wide_4 = refl

wide_5 : each (λ l. over_a Wide (5 ∷ l)) 3 (12 ∷ []) ≡ true
unfolding over_a three_over has_kernel has_three group_parts with_first global_parts tests sparse det times times_by times_x
wide_5 = refl

wide_12 : each (λ l. over_a Wide (12 ∷ l)) 3 ([]) ≡ true
unfolding over_a three_over has_kernel has_three group_parts with_first global_parts tests sparse det times times_by times_x
wide_12 = refl

wide_none : each (over_a Wide) 4 [] ≡ true
unfolding over_a three_over has_kernel has_three group_parts with_first global_parts tests sparse det times times_by times_x
wide_none = refl

narrow_over : each (over_a Narrow) 4 (members Narrow A) ≡ true
unfolding over_a three_over has_kernel has_three group_parts with_first global_parts tests sparse det times times_by times_x
narrow_over = refl

wide_over : each (over_a Wide) 4 (members Wide A) ≡ true
wide_over =
    each-suc (over_a Wide) 3 0 (1 ∷ 2 ∷ 3 ∷ 4 ∷ 5 ∷ 12 ∷ []) (each-suc (over_a Wide) 3 1 (2 ∷ 3 ∷ 4 ∷ 5 ∷ 12 ∷ []) (each-suc (over_a Wide) 3 2 (3 ∷ 4 ∷ 5 ∷ 12 ∷ []) (each-suc (over_a Wide) 3 3 (4 ∷ 5 ∷ 12 ∷ []) (each-suc (over_a Wide) 3 4 (5 ∷ 12 ∷ []) (each-suc (over_a Wide) 3 5 (12 ∷ []) (each-suc (over_a Wide) 3 12 ([]) (wide_none) wide_12) wide_5) wide_4) wide_3) wide_2) wide_1) wide_0

pub every_over : (code : Code) → each (over_a code) 4 (members code A) ≡ true
every_over Wide = wide_over
every_over Narrow = narrow_over
