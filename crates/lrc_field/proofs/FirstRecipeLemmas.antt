-- How many fragments a recipe reads, and that what it reads gives it its coefficients.
use Rattle.std.proofs.Common.{◌≡◌, ℕ, ◌<◌, ◌≤◌, ◌↔◌, true, false, if◌then◌else◌, not, eqb, bit_xor, refl, sym, ap, ◌∙◌, inl, inr, arith}
use Rattle.std.proofs.lemmas.Bool.{cases_Bool, eqb-true, eq-eqb, and_parts, and_from, agree_below_at}
use lib.Bits.{xor_self, xor_zero_r, xor_lt}
use Rattle.lrc_code.specs.declared.codes.Code.{Code}
use Rattle.lrc_code.specs.declared.numbers.Fragment.{Fragment}
use Rattle.lrc_code.specs.Codes.{fragment_count, data_count, group_size}
use Rattle.lrc_code.specs.Losses.{FragmentSet, size_of, is_local}
use Rattle.lrc_field.specs.Field.{times, inverse}
use Rattle.lrc_field.specs.Stripes.{Bytes, IsStripe, Determines, numbers_of, sum_of}
use Rattle.lrc_field.specs.Recipes.{read_by, readable, IsRecipe, IsFirstRecipe}
use Rattle.lrc_field.proofs.FieldLemmas.{xor_twice, times_zero, inverse_below, inverse_times}
use Rattle.lrc_field.proofs.SumLemmas.{sum_of-times, sum_of-xor}
use Rattle.lrc_field.proofs.ValueLemmas.{rest, singled, sums_agree, once, fragments_once}
use Rattle.lrc_field.proofs.MemberLemmas.{fragments_below}
use Rattle.lrc_field.proofs.DeterminedLemmas.{size_of-within}
use Rattle.lrc_field.proofs.DecodableLemmas.{except, except-self, rejoined}
use Rattle.lrc_field.proofs.RisingLemmas.{both_first, size_of-one_more}
use Rattle.lrc_field.proofs.ReadLemmas.{read_none}
use Rattle.lrc_field.proofs.SomeRecipeLemmas.{made, determines_by}

-- ---- what is read

-- the fragments that a recipe reads determine the fragment
pub read_determine : (code : Code) (m : FragmentSet) (f : ℕ) (c : ℕ → ℕ) → IsRecipe code m f c → Determines code (read_by c) f
read_determine code m f c recipe v w sv sw common =
    let same = sums_agree c v w (fragment_count code) sv.bytes sw.bytes (λ g few. elim (cases_Bool (read_by c g)) [
      | inl reads ↦ inr (common g few reads)
      | inr out ↦ inl (read_none code c g out)
    ]) (numbers_of code) (fragments_below code) in
    recipe.exact v sv ∙ same ∙ sym (recipe.exact w sw)

at_most : (code : Code) (m : FragmentSet) (f : ℕ) (c d : ℕ → ℕ) → IsRecipe code m f c → IsRecipe code m f d → size_of code (read_by c) ≤ size_of code (read_by d)
at_most code m f c d is_c is_d = is_c.fewest (read_by d) (λ g few h. is_d.standing g h) (read_determine code m f d is_d)

-- all recipes of a fragment read as many
pub as_many : (code : Code) (m : FragmentSet) (f : ℕ) (c d : ℕ → ℕ) → IsRecipe code m f c → IsRecipe code m f d → size_of code (read_by c) ≡ size_of code (read_by d)
as_many code m f c d is_c is_d =
    let le = at_most code m f c d is_c is_d in
    let ge = at_most code m f d c is_d is_c in
    omega (arith, le, ge)

pub recipe_reads : (code : Code) (m : FragmentSet) (f : Fragment) (c : ℕ → ℕ) → f.value < fragment_count code → IsRecipe code m f.value c → size_of code (read_by c) ≡ (if is_local code m f then group_size code else data_count code)
recipe_reads code m f c within is =
    let other = made code m f within (determines_by code m f (c, is)) in
    as_many code m f.value c other.c is other.is.recipe.recipe ∙ other.is.reads

pub first_recipe : (code : Code) (m : FragmentSet) (f : Fragment) → f.value < fragment_count code → Determines code (readable m f.value) f.value ↔ ((c : ℕ → ℕ) × IsFirstRecipe code m f.value c)
first_recipe code m f within = (
  λ determines. (let it = made code m f within determines in (it.c, it.is.recipe)),
  λ has. determines_by code m f (has.0, has.1.recipe),
)

-- ---- the coefficients

-- A fragment of which two recipes that read the same have different coefficients is the sum of what else is read. So there
-- are fewer that determine what is rebuilt.
module _ (code : Code) (m : FragmentSet) (f : ℕ) (c d : ℕ → ℕ) (lc : (g : ℕ) → c g < 256) (ld : (g : ℕ) → d g < 256) (is_c : IsRecipe code m f c) (is_d : IsRecipe code m f d) (same : (g : ℕ) → read_by c g ≡ read_by d g) where
  both : ℕ → ℕ
  both g = bit_xor (c g) (d g)

  both_below : (g : ℕ) → both g < 256
  unfolding both
  both_below g = xor_lt 8 (c g) (d g) (lc g) (ld g)

  none : (g : ℕ) → read_by c g ≡ false → both g ≡ 0
  unfolding both
  none g out = ap (bit_xor (c g)) (read_none code d g (sym (same g) ∙ out)) ∙ (xor_zero_r (c g) ∙ read_none code c g out)

  equal_from : (g : ℕ) → both g ≡ 0 → c g ≡ d g
  unfolding both
  equal_from g zero_sum = sym (xor_zero_r (c g)) ∙ (ap (bit_xor (c g)) (sym zero_sum) ∙ xor_twice (c g) (d g))

  zero_sum : (v : Bytes) → IsStripe code v → sum_of both v (numbers_of code) ≡ 0
  unfolding both
  zero_sum v sv =
      sum_of-xor c d v lc ld sv.bytes (numbers_of code)
      ∙ (ap (λ x. bit_xor x (sum_of d v (numbers_of code))) (sym (is_c.exact v sv)) ∙ (ap (bit_xor (v f)) (sym (is_d.exact v sv)) ∙ xor_self (v f)))

  module _ (k : ℕ) (differ : eqb (both k) 0 ≡ false) where
    read : read_by c k ≡ true
    read = elim (cases_Bool (read_by c k)) [
      | inl is ↦ is
      | inr out ↦ absurd (let e : true ≡ false = sym (eq-eqb (both k) 0 (none k out)) ∙ differ in cc)
    ]

    within : k < fragment_count code
    within = is_c.within k read

    factor : ℕ
    factor = inverse (both k)

    factor_below : factor < 256
    unfolding factor
    factor_below = inverse_below (both k) (both_below k)

    scaled : ℕ → ℕ
    scaled g = times factor (both g)

    one : scaled k ≡ 1
    unfolding scaled factor
    one = inverse_times (both k) (both_below k) differ

    scaled_sum : (v : Bytes) → IsStripe code v → sum_of scaled v (numbers_of code) ≡ 0
    unfolding scaled
    scaled_sum v sv = sum_of-times factor both v factor_below both_below sv.bytes (numbers_of code) ∙ (ap (times factor) (zero_sum v sv) ∙ times_zero factor)

    by_rest : (v : Bytes) → IsStripe code v → v k ≡ sum_of (rest scaled k) v (numbers_of code)
    by_rest v sv =
        let split = singled scaled v k one sv.bytes (numbers_of code) (agree_below_at (λ g. once g (numbers_of code)) (λ _. true) (fragment_count code) k (fragments_once code) within) in
        let others = sum_of (rest scaled k) v (numbers_of code) in
        sym (xor_zero_r (v k)) ∙ (ap (bit_xor (v k)) (sym (sym split ∙ scaled_sum v sv)) ∙ xor_twice (v k) others)

    abbrev fewer : FragmentSet
    fewer = except (read_by c) k

    at_k : (v w : Bytes) → IsStripe code v → IsStripe code w → ((g : ℕ) → g < fragment_count code → fewer g ≡ true → v g ≡ w g) → v k ≡ w k
    unfolding scaled
    at_k v w sv sw common =
        by_rest v sv
        ∙ (sums_agree (rest scaled k) v w (fragment_count code) sv.bytes sw.bytes (λ g few. elim (cases_Bool (eqb g k)) [
          | inl here ↦ inl (rw here refl)
          | inr other ↦ elim (cases_Bool (read_by c g)) [
            | inl reads ↦ inr (common g few (and_from (read_by c g) (not (eqb g k)) reads (rw other refl)))
            | inr out ↦ inl (rw other (ap (times factor) (none g out) ∙ times_zero factor))
          ]
        ]) (numbers_of code) (fragments_below code) ∙ sym (by_rest w sw))

    fewer_determine : Determines code fewer f
    fewer_determine v w sv sw common = read_determine code m f c is_c v w sv sw (λ g few reads. elim (cases_Bool (eqb g k)) [
      | inl here ↦ ap v (eqb-true g k here) ∙ (at_k v w sv sw common ∙ ap w (sym (eqb-true g k here)))
      | inr other ↦ common g few (and_from (read_by c g) (not (eqb g k)) reads (rw other refl))
    ])

    not_fewest : ⊥
    not_fewest =
        let least = is_c.fewest fewer (λ g few h. is_c.standing g (and_parts (read_by c g) (not (eqb g k)) h).0) fewer_determine in
        let one_less = size_of-one_more code fewer k within (except-self (read_by c) k) in
        let part = size_of-within code (read_by c) _ (λ g few h. rejoined (read_by c) k read g h) in
        omega (arith, least, one_less, part)

  pub same_coefficients : (g : ℕ) → c g ≡ d g
  same_coefficients g = elim (cases_Bool (eqb (both g) 0)) [
    | inl zero_both ↦ equal_from g (eqb-true (both g) 0 zero_both)
    | inr differ ↦ absurd (not_fewest g differ)
  ]

-- ---- the first

same_read : (code : Code) (m : FragmentSet) (f : ℕ) (c d : ℕ → ℕ) → IsFirstRecipe code m f c → IsFirstRecipe code m f d → (g : ℕ) → read_by c g ≡ read_by d g
same_read code m f c d is_c is_d g =
    let first = is_c.first (read_by d) (λ g few h. is_d.recipe.standing g h) (read_determine code m f d is_d.recipe) (as_many code m f d c is_d.recipe is_c.recipe) in
    let last = is_d.first (read_by c) (λ g few h. is_c.recipe.standing g h) (read_determine code m f c is_c.recipe) (as_many code m f c d is_c.recipe is_d.recipe) in
    elim (cases_Bool (read_by c g)) [
      | inl read_c ↦ both_first code (read_by c) (read_by d) first last g (is_c.recipe.within g read_c)
      | inr out_c ↦ elim (cases_Bool (read_by d g)) [
        | inl read_d ↦ both_first code (read_by c) (read_by d) first last g (is_d.recipe.within g read_d)
        | inr out_d ↦ out_c ∙ sym out_d
      ]
    ]

-- no fragment has two first recipes
pub one_first_recipe : (code : Code) (m : FragmentSet) (f : ℕ) (c d : ℕ → ℕ) → IsFirstRecipe code m f c → IsFirstRecipe code m f d → (g : ℕ) → c g ≡ d g
one_first_recipe code m f c d is_c is_d = same_coefficients code m f c d is_c.bytes is_d.bytes is_c.recipe is_d.recipe (same_read code m f c d is_c is_d)
