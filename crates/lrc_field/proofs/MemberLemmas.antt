-- The fragments of a code, by number, by class and by list.
use Rattle.std.proofs.Common.{◌≡◌, ℕ, ◌+◌, ◌<◌, ◌≤◌, Bool, true, ◌||◌, eqb, ltb, length, refl, ◌∙◌, inl, inr, arith}
use Rattle.std.specs.List.{list_all, list_any}
use Rattle.std.proofs.lemmas.Bool.{or_cases, eqb-true, agree_below, agree_below_at}
use Rattle.lrc_code.specs.declared.codes.Code.{Code}
use Rattle.lrc_code.specs.declared.codes.Code.TheVariants.{Wide, Narrow}
use Rattle.lrc_code.specs.declared.codes.Class.TheVariants.{A, B, G}
use Rattle.lrc_code.specs.Codes.{group_size, data_count, fragment_count, members}
use Rattle.lrc_code.specs.Losses.{FragmentSet, losses_in, size_of}
use Rattle.lrc_code.proofs.LossesLemmas.{size_of-classes}
use Rattle.lrc_code.proofs.SubsetsLemmas.{count_by-not}
use Rattle.lrc_field.specs.Stripes.{numbers_of, outside}
use Rattle.lrc_field.specs.Weights.{lost_in}
use Rattle.lrc_field.proofs.SublistLemmas.{at_filter}

-- the set of one fragment
abbrev pub only : ℕ → FragmentSet
only f g = eqb g f

pub fragments_below : (code : Code) → list_all (λ g. ltb g (fragment_count code)) (numbers_of code) ≡ true
fragments_below Wide = refl
fragments_below Narrow = refl

all_listed : (code : Code) → agree_below (λ f. list_any (eqb f) (numbers_of code)) (λ _. true) (fragment_count code) ≡ true
all_listed Wide = refl
all_listed Narrow = refl

pub fragments_listed : (code : Code) (f : ℕ) → f < fragment_count code → list_any (eqb f) (numbers_of code) ≡ true
fragments_listed code f within = agree_below_at (λ f. list_any (eqb f) (numbers_of code)) (λ _. true) (fragment_count code) f (all_listed code) within

in_a_class : (code : Code) → agree_below (λ f. list_any (eqb f) (members code A) || (list_any (eqb f) (members code B) || list_any (eqb f) (members code G))) (λ _. true) (fragment_count code) ≡ true
in_a_class Wide = refl
in_a_class Narrow = refl

-- what holds of each member of each class in the set holds of each fragment in the set
pub in_set : (code : Code) (m : FragmentSet) (t : ℕ → Bool) → list_all t (lost_in code A m) ≡ true → list_all t (lost_in code B m) ≡ true → list_all t (lost_in code G m) ≡ true → (f : ℕ) → f < fragment_count code → m f ≡ true → t f ≡ true
in_set code m t a b g f within hit =
    elim (or_cases _ _ (agree_below_at (λ f. list_any (eqb f) (members code A) || (list_any (eqb f) (members code B) || list_any (eqb f) (members code G))) (λ _. true) (fragment_count code) f (in_a_class code) within)) [
      | inl x ↦ at_filter t m f (members code A) a x hit
      | inr y ↦ elim (or_cases _ _ y) [ inl x ↦ at_filter t m f (members code B) b x hit | inr z ↦ at_filter t m f (members code G) g z hit ]
    ]

pub at_most_sixteen : (code : Code) → fragment_count code ≤ 16
at_most_sixteen Wide = omega arith
at_most_sixteen Narrow = omega arith

one_class : (code : Code) → agree_below (λ f. eqb (losses_in code A (only f) + losses_in code B (only f) + losses_in code G (only f)) 1) (λ _. true) (fragment_count code) ≡ true
one_class Wide = refl
one_class Narrow = refl

-- a fragment is in one class
pub only_one : (code : Code) (f : ℕ) → f < fragment_count code → losses_in code A (only f) + losses_in code B (only f) + losses_in code G (only f) ≡ 1
only_one code f within = eqb-true _ _ (agree_below_at (λ f. eqb (losses_in code A (only f) + losses_in code B (only f) + losses_in code G (only f)) 1) (λ _. true) (fragment_count code) f (one_class code) within)

-- the number of members of a local group
local_size : Code → ℕ
local_size code = group_size code + 1

lengths : (code : Code) → (length (members code A) ≡ local_size code) × (length (members code B) ≡ local_size code) × (length (members code G) ≡ 2)
unfolding local_size
lengths Wide = (refl, refl, refl)
lengths Narrow = (refl, refl, refl)

all_lengths : (code : Code) → (fragment_count code ≡ local_size code + local_size code + 2) × (fragment_count code ≡ data_count code + 4)
unfolding local_size
all_lengths Wide = (refl, refl)
all_lengths Narrow = (refl, refl)

total : (a b g x y z n s t all : ℕ) → x + a ≡ n → y + b ≡ n → z + g ≡ 2 → s ≡ x + y + z → t ≡ a + b + g → all ≡ n + n + 2 → s + t ≡ all
total a b g x y z n s t all ea eb eg es et e = omega (arith, ea, eb, eg, es, et, e)

-- the fragments of a set and the others are all
pub size_of-outside : (code : Code) (m : FragmentSet) → size_of code (outside m) + size_of code m ≡ fragment_count code
size_of-outside code m =
    let long = lengths code in
    total (losses_in code A m) (losses_in code B m) (losses_in code G m) (losses_in code A (outside m)) (losses_in code B (outside m)) (losses_in code G (outside m)) (local_size code) (size_of code (outside m)) (size_of code m) (fragment_count code)
    (count_by-not m (members code A) ∙ long.0) (count_by-not m (members code B) ∙ long.1) (count_by-not m (members code G) ∙ long.2)
    (size_of-classes code (outside m)) (size_of-classes code m) (all_lengths code).0

pub four_parities : (code : Code) → fragment_count code ≡ data_count code + 4
four_parities code = (all_lengths code).1
