-- The weights for three fragments, a member of each local group and a third: exactly these get 0.
use Rattle.std.proofs.Common.{◌≡◌, ℕ, ◌<◌, Bool, true, false, cond, not, ◌&&◌, ◌||◌, eqb, ltb, refl}
use Rattle.std.specs.List.{list_all, list_any}
use Rattle.std.proofs.lemmas.Bool.{and_parts, eqb-true, ltb-true, not-true}
use Rattle.lrc_code.specs.declared.codes.Code.{Code}
use Rattle.lrc_code.specs.declared.codes.Code.TheVariants.{Wide, Narrow}
use Rattle.lrc_code.specs.declared.codes.Class.TheVariants.{A, B}
use Rattle.lrc_code.specs.Codes.{fragment_count, members}
use Rattle.lrc_field.specs.Field.{times, times_by, times_x}
use Rattle.lrc_field.specs.Stripes.{numbers_of}
use Rattle.lrc_field.specs.Weights.{Weights, value_at, weights_without}
use Rattle.lrc_field.proofs.SublistLemmas.{at_listed}
use Rattle.lrc_field.proofs.MemberLemmas.{fragments_listed}
use Rattle.lrc_field.proofs.ValueLemmas.{AreBytes}

-- the fragment is one of the three
abbrev pub is_out : ℕ → ℕ → ℕ → ℕ → Bool
is_out x y z g = eqb g x || (eqb g y || eqb g z)

are_bytes : Weights → Bool
are_bytes w = (ltb w.local_a 256 && ltb w.local_b 256) && (ltb w.global 256 && ltb w.square 256)

-- the value is 0 exactly if it has to be
fits : Bool → ℕ → Bool
fits out v = cond out (eqb v 0) (not (eqb v 0))

fits_out : (out : Bool) (v : ℕ) → fits out v ≡ true → out ≡ true → eqb v 0 ≡ true
unfolding fits
fits_out true v h e = h
fits_out false v h e = absurd (let k : false ≡ true = e in cc)

fits_in : (out : Bool) (v : ℕ) → fits out v ≡ true → out ≡ false → eqb v 0 ≡ false
unfolding fits
fits_in true v h e = absurd (let k : true ≡ false = e in cc)
fits_in false v h e = not-true (eqb v 0) h

exact : Code → ℕ → ℕ → ℕ → Weights → Bool
exact code x y z w = are_bytes w && list_all (λ g. fits (is_out x y z g) (value_at code w g)) (numbers_of code)

exact_at : Code → ℕ → ℕ → ℕ → Bool
exact_at code x y z = elim (eqb z x || eqb z y) [ true ↦ true | false ↦ exact code x y z (weights_without code x y z) ]

exact_from : Code → ℕ → Bool
exact_from code x = list_all (λ y. list_all (exact_at code x y) (numbers_of code)) (members code B)

wide_exact : list_all (exact_from Wide) (members Wide A) ≡ true
unfolding exact_from exact_at exact fits are_bytes weights_without value_at times times_by times_x
wide_exact = refl

narrow_exact : list_all (exact_from Narrow) (members Narrow A) ≡ true
unfolding exact_from exact_at exact fits are_bytes weights_without value_at times times_by times_x
narrow_exact = refl

all_exact : (code : Code) → list_all (exact_from code) (members code A) ≡ true
all_exact Wide = wide_exact
all_exact Narrow = narrow_exact

bytes_from : (w : Weights) → are_bytes w ≡ true → AreBytes w
unfolding are_bytes
bytes_from w h =
    let ab = and_parts (ltb w.local_a 256 && ltb w.local_b 256) (ltb w.global 256 && ltb w.square 256) h in
    let x = and_parts (ltb w.local_a 256) (ltb w.local_b 256) ab.0 in
    let y = and_parts (ltb w.global 256) (ltb w.square 256) ab.1 in
    record { local_a = ltb-true w.local_a 256 x.0; local_b = ltb-true w.local_b 256 x.1; global = ltb-true w.global 256 y.0; square = ltb-true w.square 256 y.1 }

-- weights for which exactly the three fragments get 0
pub record AreExact (code : Code) (x y z : ℕ) (w : Weights) : Type 0 where
  pub small : AreBytes w
  pub none : (g : ℕ) → g < fragment_count code → is_out x y z g ≡ true → value_at code w g ≡ 0
  pub some : (g : ℕ) → g < fragment_count code → is_out x y z g ≡ false → eqb (value_at code w g) 0 ≡ false

from_exact : (code : Code) (x y z : ℕ) (w : Weights) → exact code x y z w ≡ true → AreExact code x y z w
unfolding exact
from_exact code x y z w h =
    let parts = and_parts (are_bytes w) (list_all (λ g. fits (is_out x y z g) (value_at code w g)) (numbers_of code)) h in
    let fitting : (g : ℕ) → g < fragment_count code → fits (is_out x y z g) (value_at code w g) ≡ true =
    λ g few. at_listed (λ g. fits (is_out x y z g) (value_at code w g)) g (numbers_of code) parts.1 (fragments_listed code g few) in
    record {
      small = bytes_from w parts.0;
      none = λ g few out. eqb-true (value_at code w g) 0 (fits_out (is_out x y z g) (value_at code w g) (fitting g few) out);
      some = λ g few other. fits_in (is_out x y z g) (value_at code w g) (fitting g few) other;
    }

exact_apart : (code : Code) (x y z : ℕ) → exact_at code x y z ≡ true → (eqb z x || eqb z y) ≡ false → exact code x y z (weights_without code x y z) ≡ true
unfolding exact_at
exact_apart code x y z h apart = rw (apart, exact_at) at h

exact_in : (code : Code) (x y z : ℕ) → exact_from code x ≡ true → list_any (eqb y) (members code B) ≡ true → z < fragment_count code → exact_at code x y z ≡ true
unfolding exact_from
exact_in code x y z h in_b few =
    at_listed (exact_at code x y) z (numbers_of code) (at_listed (λ y. list_all (exact_at code x y) (numbers_of code)) y (members code B) h in_b) (fragments_listed code z few)

-- the weights for a member of each local group and any third fragment
pub weights_exact : (code : Code) (x y z : ℕ) → list_any (eqb x) (members code A) ≡ true → list_any (eqb y) (members code B) ≡ true → z < fragment_count code → (eqb z x || eqb z y) ≡ false → AreExact code x y z (weights_without code x y z)
weights_exact code x y z in_a in_b few apart =
    from_exact code x y z (weights_without code x y z) (exact_apart code x y z (exact_in code x y z (at_listed (exact_from code) x (members code A) (all_exact code) in_a) in_b few) apart)
