-- A fragment has one recipe.
use Rattle.std.proofs.Common.{◌≡◌, get_or, inl, inr, sym, ap, ◌∙◌}
use Rattle.std.proofs.lemmas.Bool.{cases_Bool}
use Rattle.std.proofs.lemmas.Grind.{same_number_lists}
use Rattle.lrc_code.specs.declared.codes.Code.{Code}
use Rattle.lrc_code.specs.declared.numbers.Fragment.{Fragment}
use Rattle.lrc_code.specs.Losses.{FragmentSet}
use Rattle.lrc_field.proofs.FirstRecipeLemmas.{one_first_recipe}
use Rattle.lrc_records.specs.Recipes.{IsRecipeOf, encoded_recipe}
use Rattle.lrc_records.specs.declared.recipe.LrcRecipe.{LrcRecipe}

same_coefficients : (code : Code) (missing : FragmentSet) (f : Fragment) (r s : LrcRecipe) → IsRecipeOf code missing f r → IsRecipeOf code missing f s → r.coefficients ≡ s.coefficients
same_coefficients code missing f r s is_r is_s = elim (cases_Bool (missing f.value)) [
  | inr there ↦ is_r.copied there ∙ sym (is_s.copied there)
  | inl lost ↦ same_number_lists r.coefficients s.coefficients (is_r.sixteen ∙ sym is_s.sixteen) (λ k low.
      one_first_recipe code missing f.value (λ g. get_or r.coefficients g 0) (λ g. get_or s.coefficients g 0) (is_r.rebuilt lost) (is_s.rebuilt lost) k)
]

pub one_recipe : (code : Code) (missing : FragmentSet) (f : Fragment) (r s : LrcRecipe) → IsRecipeOf code missing f r → IsRecipeOf code missing f s → r ≡ s
one_recipe code missing f r s is_r is_s = is_r.encoded ∙ (ap (encoded_recipe code f) (same_coefficients code missing f r s is_r is_s) ∙ sym is_s.encoded)
