-- A recoverable set is decodable: the weights for each of its fragments.
use Rattle.std.proofs.Common.{◌≡◌, ℕ, ◌<◌, ◌⊎◌, Bool, true, false, cond, if◌then◌else◌, not, ◌&&◌, ◌||◌, eqb, ltb, nat_eq, lit<, refl, sym, ap, ◌∙◌, inl, inr, arith, Some}
use Rattle.std.specs.Option.{option_map_or}
use Rattle.std.proofs.lemmas.Bool.{cases_Bool, and_from, or_cases, eqb-true, eq-eqb, ltb-true, agree_below, agree_below_at}
use Rattle.lrc_code.specs.declared.codes.Code.{Code}
use Rattle.lrc_code.specs.declared.codes.Code.TheVariants.{Wide, Narrow}
use Rattle.lrc_code.specs.declared.codes.Class.TheVariants.{A, B, G}
use Rattle.lrc_code.specs.Codes.{fragment, fragment_count, class_of, are_one_class, is_local_class}
use Rattle.lrc_code.specs.Losses.{FragmentSet, IsRecoverable, size_of, joined, is_local}
use Rattle.lrc_code.proofs.SizeLemmas.{recoverable_part}
use Rattle.lrc_field.specs.Field.{times, times_by, times_x, inverse}
use Rattle.lrc_field.specs.Stripes.{numbers_of, outside, Determines, IsDecodable}
use Rattle.lrc_field.specs.Weights.{Weights, value_at, scaled, coefficient_by, weights_without, raw_weights, weights_for, local_weights, lost_in, out_of_a, out_of_b, third_out}
use Rattle.lrc_field.proofs.FieldLemmas.{times_zero, times_below, inverse_below, inverse_times}
use Rattle.lrc_field.proofs.SublistLemmas.{at_listed}
use Rattle.lrc_field.proofs.MemberLemmas.{only, fragments_below, at_most_sixteen}
use Rattle.lrc_field.proofs.ValueLemmas.{AreBytes, value_below, value-scaled, rebuilt, sums_agree}
use Rattle.lrc_field.proofs.ZeroLemmas.{is_out, AreExact, weights_exact}
use Rattle.lrc_field.proofs.LeftOutLemmas.{four, is_spare, Out, IsNear, left_out}
use Rattle.lrc_field.proofs.NearLemmas.{IsAlone, alone_from, near_from}

-- weights that give a fragment 1, and 0 to each of a set
pub record Rebuilds (code : Code) (o : FragmentSet) (f : ℕ) (w : Weights) : Type 0 where
  pub small : AreBytes w
  pub one : value_at code w f ≡ 1
  pub none : (g : ℕ) → g < fragment_count code → o g ≡ true → value_at code w g ≡ 0

-- and 0 to three fragments, which with the fragment are four; each of them is in the set, or spare
pub record LeavesOut (code : Code) (o : FragmentSet) (f : ℕ) (w : Weights) : Type 0 where
  pub x : ℕ
  pub y : ℕ
  pub z : ℕ
  pub none : (g : ℕ) → g < fragment_count code → is_out x y z g ≡ true → value_at code w g ≡ 0
  pub count : size_of code (four f x y z) ≡ 4
  pub spare : (g : ℕ) → is_out x y z g ≡ true → o g ≡ false → is_spare code (four f x y z) g ≡ true

-- ---- the weights of a fragment in whose group another is lost

scaled_bytes : (i : ℕ) (w : Weights) → i < 256 → AreBytes w → AreBytes (scaled i w)
scaled_bytes i w l s = record { local_a = times_below i w.local_a l s.local_a; local_b = times_below i w.local_b l s.local_b; global = times_below i w.global l s.global; square = times_below i w.square l s.square }

module _ (code : Code) (o : FragmentSet) (f x y z : ℕ) (within : f < fragment_count code) (out : Out code o f x y z) where
  raw : Weights
  raw = weights_without code x y z

  own : ℕ
  own = value_at code raw f

  exact : AreExact code x y z raw
  unfolding raw
  exact = weights_exact code x y z out.in_a out.in_b (ltb-true z (fragment_count code) (at_listed (λ g. ltb g (fragment_count code)) z (numbers_of code) (fragments_below code) out.listed)) out.apart

  below : own < 256
  unfolding own
  below = value_below code raw exact.small f

  some : eqb own 0 ≡ false
  unfolding own
  some = exact.some f within out.other

  scaled_none : (g : ℕ) → g < fragment_count code → is_out x y z g ≡ true → value_at code (scaled (inverse own) raw) g ≡ 0
  scaled_none g few hit = value-scaled code raw exact.small (inverse own) (inverse_below own below) g ∙ ap (times (inverse own)) (exact.none g few hit) ∙ times_zero (inverse own)

  scaled_one : value_at code (scaled (inverse own) raw) f ≡ 1
  unfolding own
  scaled_one = value-scaled code raw exact.small (inverse own) (inverse_below own below) f ∙ inverse_times own below some

  rebuilds_out : Rebuilds code o f (scaled (inverse own) raw)
  rebuilds_out = record { small = scaled_bytes (inverse own) raw (inverse_below own below) exact.small; one = scaled_one; none = λ g few hit. scaled_none g few (out.lost g few hit) }

  leaves_out : LeavesOut code o f (scaled (inverse own) raw)
  leaves_out = record { x = x; y = y; z = z; none = scaled_none; count = out.count; spare = out.spare }

  pub both_out : Rebuilds code o f (scaled (inverse (value_at code (weights_without code x y z) f)) (weights_without code x y z)) × LeavesOut code o f (scaled (inverse (value_at code (weights_without code x y z) f)) (weights_without code x y z))
  unfolding own raw
  both_out = (rebuilds_out, leaves_out)

pub rebuilds_near : (code : Code) (o : FragmentSet) (f p : ℕ) → f < fragment_count code → o f ≡ false → IsNear code o f p → IsRecoverable code (joined o (only f)) → Rebuilds code o f (weights_for code o f) × LeavesOut code o f (weights_for code o f)
unfolding weights_for raw_weights
rebuilds_near code o f p within out near good =
    both_out code o f (out_of_a code (lost_in code A o)) (out_of_b code (lost_in code B o)) (third_out code (lost_in code A o) (lost_in code B o) (lost_in code G o) f) within (left_out code o f p within out near good)

-- ---- the weights of a fragment that is lost alone in its group

local_bytes : (b : Bool) → AreBytes (if b then record { local_a = 0; local_b = 1; global = 0; square = 0 } else record { local_a = 1; local_b = 0; global = 0; square = 0 })
local_bytes true = record { local_a = lit< tt; local_b = lit< tt; global = lit< tt; square = lit< tt }
local_bytes false = record { local_a = lit< tt; local_b = lit< tt; global = lit< tt; square = lit< tt }

-- the members of the group get 1, and all others 0
is_own : Code → ℕ → ℕ → Bool
is_own code f g = not (option_map_or is_local_class (class_of code f) false) || eqb (value_at code (local_weights code f) g) (cond (are_one_class (class_of code f) (class_of code g)) 1 0)

all_own : (code : Code) → agree_below (λ f. agree_below (is_own code f) (λ _. true) 16) (λ _. true) (fragment_count code) ≡ true
unfolding is_own value_at times times_by times_x
all_own Wide = refl
all_own Narrow = refl

pub local_value : (code : Code) (f g : ℕ) → f < fragment_count code → g < 16 → option_map_or is_local_class (class_of code f) false ≡ true → value_at code (local_weights code f) g ≡ cond (are_one_class (class_of code f) (class_of code g)) 1 0
unfolding is_own
local_value code f g within low grouped =
    let all = agree_below_at (is_own code f) (λ _. true) 16 g (agree_below_at (λ f. agree_below (is_own code f) (λ _. true) 16) (λ _. true) (fragment_count code) f (all_own code) within) low in
    elim (or_cases (not (option_map_or is_local_class (class_of code f) false)) (eqb (value_at code (local_weights code f) g) (cond (are_one_class (class_of code f) (class_of code g)) 1 0)) all) [
      | inl outside_of ↦ absurd (let e : not true ≡ true = rw grouped at outside_of in cc)
      | inr is ↦ eqb-true _ _ is
    ]

all_classed : (code : Code) → agree_below (λ f. are_one_class (class_of code f) (class_of code f)) (λ _. true) (fragment_count code) ≡ true
all_classed Wide = refl
all_classed Narrow = refl

pub own_class : (code : Code) (f : ℕ) → f < fragment_count code → are_one_class (class_of code f) (class_of code f) ≡ true
own_class code f within = agree_below_at (λ f. are_one_class (class_of code f) (class_of code f)) (λ _. true) (fragment_count code) f (all_classed code) within

pub rebuilds_local : (code : Code) (m o : FragmentSet) (f : ℕ) → f < fragment_count code → o f ≡ false → ((g : ℕ) → o g ≡ true → m g ≡ true) → IsAlone code m f → Rebuilds code o f (local_weights code f)
rebuilds_local code m o f within out inside alone =
    let sixteen = at_most_sixteen code in
    record {
      small = local_bytes (are_one_class (Some B) (class_of code f));
      one = local_value code f f within (omega (arith, within, sixteen)) alone.grouped ∙ rw (own_class code f within) refl;
      none = λ g few hit. elim (cases_Bool (are_one_class (class_of code f) (class_of code g))) [
        | inr other ↦ local_value code f g within (omega (arith, few, sixteen)) alone.grouped ∙ rw other refl
        | inl one ↦ elim (cases_Bool (nat_eq f g)) [
          | inl here ↦ absurd (let e : true ≡ false = sym hit ∙ (ap o (sym (eqb-true f g here)) ∙ out) in cc)
          | inr apart ↦ absurd (let e : true ≡ false = sym (inside g hit) ∙ alone.none g few (and_from (are_one_class (class_of code f) (class_of code g)) (not (nat_eq f g)) one (rw apart refl)) in cc)
        ]
      ];
    }

-- ---- what is determined

pub determined : (code : Code) (o known : FragmentSet) (f : ℕ) (w : Weights) → f < fragment_count code → Rebuilds code o f w → ((g : ℕ) → known g ≡ false → eqb g f ≡ false → o g ≡ true) → Determines code known f
determined code o known f w within s rest u v stripe_u stripe_v same =
    rebuilt code w s.small f within s.one u stripe_u
    ∙ sums_agree (coefficient_by code f w) u v (fragment_count code) stripe_u.bytes stripe_v.bytes agree (numbers_of code) (fragments_below code)
    ∙ sym (rebuilt code w s.small f within s.one v stripe_v) where
      agree : (g : ℕ) → g < fragment_count code → (coefficient_by code f w g ≡ 0) ⊎ (u g ≡ v g)
      agree g few = elim (cases_Bool (eqb g f)) [
        | inl here ↦ inl (rw here refl)
        | inr other ↦ elim (cases_Bool (known g)) [
          | inl stands ↦ inr (same g few stands)
          | inr unknown ↦ inl (rw other (s.none g few (rest g unknown other)))
        ]
      ]

-- some weights that rebuild a fragment
pub record SomeWeights (code : Code) (o : FragmentSet) (f : ℕ) : Type 0 where
  pub w : Weights
  pub rebuilds : Rebuilds code o f w

-- the set without one fragment
abbrev pub except : FragmentSet → ℕ → FragmentSet
except m f g = m g && not (eqb g f)

pub except-self : (m : FragmentSet) (f : ℕ) → except m f f ≡ false
except-self m f = rw (eq-eqb f f refl) (none (m f)) where
  none : (b : Bool) → (b && not true) ≡ false
  none true = refl
  none false = refl

inner : (b c : Bool) → (b && c) ≡ true → b ≡ true
inner true c h = refl
inner false c h = absurd (let e : false ≡ true = h in cc)

-- a set is the set without one of its fragments, and that fragment
pub rejoined : (m : FragmentSet) (f : ℕ) → m f ≡ true → (g : ℕ) → joined (except m f) (only f) g ≡ true → m g ≡ true
rejoined m f hit g h = elim (or_cases (except m f g) (eqb g f) h) [
  | inl other ↦ inner (m g) (not (eqb g f)) other
  | inr here ↦ ap m (eqb-true g f here) ∙ hit
]

-- a fragment of a recoverable set has weights
pub some_weights : (code : Code) (m : FragmentSet) → IsRecoverable code m → (f : ℕ) → f < fragment_count code → m f ≡ true → SomeWeights code (except m f) f
some_weights code m good f within hit =
    let sixteen = at_most_sixteen code in
    let it = fragment f (omega (arith, within, sixteen)) in
    elim (cases_Bool (is_local code m it)) [
      | inl local ↦ record { w = local_weights code f; rebuilds = rebuilds_local code m (except m f) f within (except-self m f) (λ g h. inner (m g) (not (eqb g f)) h) (alone_from code m it local) }
      | inr absent ↦
          let k = near_from code m (except m f) it within (λ g few lost apart. and_from (m g) (not (eqb g f)) lost (rw apart refl)) absent in
          record { w = weights_for code (except m f) f; rebuilds = (rebuilds_near code (except m f) f k.p within (except-self m f) k.near (recoverable_part code m (joined (except m f) (only f)) (λ g few h. rejoined m f hit g h) good)).0 }
    ]

lost_too : (b : Bool) → not b ≡ false → b ≡ true
lost_too true e = refl
lost_too false e = absurd (let k : true ≡ false = e in cc)

-- A recoverable set is decodable.
pub decodable : (code : Code) (m : FragmentSet) → IsRecoverable code m → IsDecodable code m
decodable code m good f within = elim (cases_Bool (m f)) [
  | inr stands ↦ λ u v stripe_u stripe_v same. same f within (rw stands refl)
  | inl hit ↦
      let k = some_weights code m good f within hit in
      determined code (except m f) (outside m) f k.w within k.rebuilds (λ g left apart. and_from (m g) (not (eqb g f)) (lost_too (m g) left) (rw apart refl))
]
