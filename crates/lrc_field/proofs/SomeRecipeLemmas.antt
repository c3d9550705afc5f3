-- A fragment has a recipe exactly if the others that can be read determine it.
use Rattle.std.proofs.Common.{◌≡◌, ℕ, ◌<◌, ◌⊎◌, ◌↔◌, true, if◌then◌else◌, ◌||◌, eqb, ltb, nat_lt, List, [], ◌∷◌, refl, sym, ap, ap₂, ◌∙◌, inl, inr}
use Rattle.std.specs.List.{list_all}
use Rattle.std.proofs.lemmas.Bool.{cases_Bool, lt-ltb, le-ltb, ltb-true, and_parts}
use Rattle.lrc_code.specs.declared.codes.Code.{Code}
use Rattle.lrc_code.specs.declared.numbers.Fragment.{Fragment}
use Rattle.lrc_code.specs.Codes.{fragment_count}
use Rattle.lrc_code.specs.Losses.{FragmentSet, is_local}
use Rattle.lrc_field.specs.Field.{plus, times}
use Rattle.lrc_field.specs.Stripes.{Bytes, sum_of, numbers_of, Determines}
use Rattle.lrc_field.specs.Recipes.{read_by, readable, IsRecipe}
use Rattle.lrc_field.specs.Weights.{Weights, coefficient_by, local_weights, weights_for}
use Rattle.lrc_field.proofs.FieldLemmas.{zero_times}
use Rattle.lrc_field.proofs.MemberLemmas.{fragments_below}
use Rattle.lrc_field.proofs.ReadLemmas.{AreOf, read_none}
use Rattle.lrc_field.proofs.RecipeLemmas.{Made, others_of, local_recipe, near_recipe, no_recipe}

abbrev pub HasRecipe : Code → FragmentSet → Fragment → Type 0
HasRecipe code missing f = (c : ℕ → ℕ) × IsRecipe code missing f.value c

-- the coefficients that the weights give, of sixteen fragments
coefficients : Code → ℕ → Weights → ℕ → ℕ
coefficients code f w g = if nat_lt g 16 then coefficient_by code f w g else 0

are_those : (code : Code) (f : ℕ) (w : Weights) → AreOf code f w (coefficients code f w)
unfolding coefficients
are_those code f w = record { by = λ g low. rw (lt-ltb g 16 low) refl; past = λ g high. rw (le-ltb g 16 high) refl }

pub record SomeMade (code : Code) (m : FragmentSet) (f : Fragment) : Type 0 where
  pub c : ℕ → ℕ
  pub is : Made code m f c

pub made : (code : Code) (m : FragmentSet) (f : Fragment) → f.value < fragment_count code → Determines code (readable m f.value) f.value → SomeMade code m f
made code m f within determines = elim (cases_Bool (is_local code m f)) [
  | inl local ↦
      let w = local_weights code f.value in
      record { c = coefficients code f.value w; is = local_recipe code m f (coefficients code f.value w) within local (are_those code f.value w) }
  | inr absent ↦
      let o = others_of m f.value in
      let w = weights_for code o f.value in
      let lost : FragmentSet = λ g. eqb g f.value || m g in
      let good = no_recipe code m o f (λ _. 0) within (λ g. refl) absent lost (λ g. refl) determines in
      record { c = coefficients code f.value w; is = near_recipe code m o f (coefficients code f.value w) within (λ g. refl) absent lost (λ g. refl) good (are_those code f.value w) }
]

-- ---- what is read determines the fragment

module _ (c : ℕ → ℕ) (v w : Bytes) (lv : (f : ℕ) → v f < 256) (lw : (f : ℕ) → w f < 256) where
  one_same : (g : ℕ) → (c g ≡ 0) ⊎ (v g ≡ w g) → times (c g) (v g) ≡ times (c g) (w g)
  one_same g (inl none) = ap (λ k. times k (v g)) none ∙ zero_times (v g) (lv g) ∙ sym (zero_times (w g) (lw g)) ∙ ap (λ k. times k (w g)) (sym none)
  one_same g (inr same) = ap (times (c g)) same

  sum_of-common : (n : ℕ) → ((g : ℕ) → g < n → (c g ≡ 0) ⊎ (v g ≡ w g)) → (fs : List ℕ) → list_all (λ g. ltb g n) fs ≡ true → sum_of c v fs ≡ sum_of c w fs
  sum_of-common n same [] h = refl
  sum_of-common n same (f ∷ fs) h =
      let parts = and_parts (ltb f n) (list_all (λ g. ltb g n) fs) h in
      ap₂ plus (one_same f (same f (ltb-true f n parts.0))) (sum_of-common n same fs parts.1)

pub determines_by : (code : Code) (m : FragmentSet) (f : Fragment) → HasRecipe code m f → Determines code (readable m f.value) f.value
determines_by code m f (c, recipe) v w sv sw common =
    let same = sum_of-common c v w sv.bytes sw.bytes (fragment_count code) (λ g few. elim (cases_Bool (read_by c g)) [
      | inl reads ↦ inr (common g few (recipe.standing g reads))
      | inr out ↦ inl (read_none code c g out)
    ]) (numbers_of code) (fragments_below code) in
    recipe.exact v sv ∙ same ∙ sym (recipe.exact w sw)

-- A fragment has a recipe exactly if what can be read determines it.
pub some_recipe : (code : Code) (m : FragmentSet) (f : Fragment) → f.value < fragment_count code → Determines code (readable m f.value) f.value ↔ HasRecipe code m f
some_recipe code m f within = (λ determines. (let it = made code m f within determines in (it.c, it.is.recipe.recipe)), determines_by code m f)
