-- The sources of a lease, and what they determine.
use Rattle.std.proofs.Common.{◌≡◌, ℕ, ◌<◌, Bool, true, false, not, ◌&&◌, eqb, ltb, nat_eq, IsTrue, List, [], ◌∷◌, filter, refl, sym, ◌∙◌, inl, inr}
use Rattle.std.specs.List.{list_any}
use Rattle.std.specs.Option.{option_map_or}
use Rattle.std.proofs.lemmas.Bool.{cases_Bool, and_parts, and_from, not-true, eq-eqb, ltb-true, agree_below, agree_below_at}
use Rattle.lrc_code.specs.declared.codes.Code.{Code}
use Rattle.lrc_code.specs.declared.codes.Code.TheVariants.{Wide, Narrow}
use Rattle.lrc_code.specs.declared.numbers.Fragment.{Fragment}
use Rattle.lrc_code.specs.Codes.{fragments, fragment_count, class_of, are_one_class, is_local_class, is_in_group, others, data_count}
use Rattle.lrc_code.specs.Losses.{FragmentSet, is_local, size_of}
use Rattle.lrc_field.specs.Stripes.{Determines}
use Rattle.lrc_field.specs.Weights.{local_weights}
use Rattle.lrc_field.proofs.NearLemmas.{is_beside, IsAlone}
use Rattle.lrc_field.proofs.DecodableLemmas.{rebuilds_local, determined}

-- what determines a fragment does so with more
pub more_determine : (code : Code) (known more : FragmentSet) (f : ℕ) → ((g : ℕ) → g < fragment_count code → IsTrue (known g) → IsTrue (more g)) → Determines code known f → Determines code more f
more_determine code known more f within determines v w sv sw common = determines v w sv sw (λ g few hit. common g few (within g few hit))

-- ---- the others of a local group

-- a list of fragments has this number
abbrev pub is_named : List Fragment → FragmentSet
is_named fs g = list_any (λ h. nat_eq h.value g) fs

named_by_number : Code → ℕ → FragmentSet
named_by_number code f = is_named (filter (λ h. are_one_class (class_of code f) (class_of code h.value) && not (nat_eq f h.value)) (fragments code))

same_named : Code → ℕ → Bool
same_named code f = agree_below (named_by_number code f) (is_beside code f) (fragment_count code)

all_same : (code : Code) → agree_below (same_named code) (λ _. true) (fragment_count code) ≡ true
unfolding same_named named_by_number
all_same Wide = refl
all_same Narrow = refl

-- the others of a fragment's class, by number
pub named_others : (code : Code) (f : Fragment) → f.value < fragment_count code → (g : ℕ) → g < fragment_count code → is_named (others code f) g ≡ is_beside code f.value g
unfolding named_by_number same_named
named_others code f within g few =
    agree_below_at (named_by_number code f.value) (is_beside code f.value) (fragment_count code) g
    (agree_below_at (same_named code) (λ _. true) (fragment_count code) f.value (all_same code) within) few

is_small : Code → ℕ → Bool
is_small code f = ltb (size_of code (is_beside code f)) (data_count code)

all_small : (code : Code) → agree_below (is_small code) (λ _. true) (fragment_count code) ≡ true
unfolding is_small
all_small Wide = refl
all_small Narrow = refl

-- they are fewer than the data fragments
pub few_others : (code : Code) (f : ℕ) → f < fragment_count code → size_of code (is_beside code f) < data_count code
unfolding is_small
few_others code f within = ltb-true _ _ (agree_below_at (is_small code) (λ _. true) (fragment_count code) f (all_small code) within)

-- all but the fragment and the others of its class
abbrev far_from : Code → ℕ → FragmentSet
far_from code f g = not (eqb g f) && not (is_beside code f g)

far-self : (code : Code) (f : ℕ) → far_from code f f ≡ false
far-self code f = rw (eq-eqb f f refl) refl

far-beside : (a b : Bool) → b ≡ true → (a && not b) ≡ false
far-beside true b e = rw e refl
far-beside false b e = refl

-- the others of a local group determine its member
pub others_determine : (code : Code) (f : ℕ) → f < fragment_count code → option_map_or is_local_class (class_of code f) false ≡ true → Determines code (is_beside code f) f
others_determine code f within grouped =
    let alone : IsAlone code (far_from code f) f = record { grouped = grouped; none = λ g few beside. far-beside (not (eqb g f)) (is_beside code f g) beside } in
    determined code (far_from code f) (is_beside code f) f (local_weights code f) within
    (rebuilds_local code (far_from code f) (far_from code f) f within (far-self code f) (λ g h. h) alone)
    (λ g unknown apart. and_from (not (eqb g f)) (not (is_beside code f g)) (rw apart refl) (rw unknown refl))

-- ---- smaller sets of losses

none_of : (m part : FragmentSet) → ((g : ℕ) → IsTrue (part g) → IsTrue (m g)) → (fs : List Fragment) → list_any (λ h. m h.value) fs ≡ false → list_any (λ h. part h.value) fs ≡ false
none_of m part within [] none = refl
none_of m part within (f ∷ fs) none = elim (cases_Bool (part f.value)) [
  | inl hit ↦ absurd (let e : true ≡ false = sym (rw (within f.value hit) refl) ∙ none in cc)
  | inr out ↦ elim (cases_Bool (m f.value)) [
    | inl also ↦ absurd (let e : true ≡ false = sym (rw also refl) ∙ none in cc)
    | inr apart ↦ rw out (none_of m part within fs (rw apart at none))
  ]
]

-- a group that rebuilds its member after some losses does so after a part of them
pub local_part : (code : Code) (m part : FragmentSet) (f : Fragment) → ((g : ℕ) → IsTrue (part g) → IsTrue (m g)) → is_local code m f ≡ true → is_local code part f ≡ true
local_part code m part f within local =
    let parts = and_parts (is_in_group code f) (not (list_any (λ h. m h.value) (others code f))) local in
    let none : list_any (λ h. part h.value) (others code f) ≡ false = none_of m part within (others code f) (not-true (list_any (λ h. m h.value) (others code f)) parts.1) in
    rw (parts.0, none) refl
