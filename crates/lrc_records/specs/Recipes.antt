-- The struct of a recipe.
use Rattle.std.specs.Prelude.{◌≡◌, ℕ, ◌<◌, ◌&&◌, if◌then◌else◌, not, IsTrue, IsFalse, List, length, replicate, get_or}
use Rattle.lrc_code.specs.declared.codes.Code.{Code}
use Rattle.lrc_code.specs.declared.numbers.Fragment.{Fragment}
use Rattle.lrc_code.specs.Numbers.{same_fragment}
use Rattle.lrc_code.specs.Codes.{fragment_count, share_class}
use Rattle.lrc_code.specs.Losses.{FragmentSet, is_local}
use Rattle.lrc_field.specs.Recipes.{IsFirstRecipe, only_itself}
use Rattle.lrc_records.specs.Shown.{encoded_code}
use Rattle.lrc_records.specs.declared.recipe.LrcRecipe.{LrcRecipe}

abbrev pub encoded_recipe : Code → Fragment → List ℕ → LrcRecipe
encoded_recipe code fragment coefficients = record { code = encoded_code code; fragment = fragment.value; reserved = replicate 6 0; coefficients = coefficients }

-- The recipe of a fragment where some are missing. One that is not missing is copied; for another one it is a sum of those that are not missing, of as few as can be, and of these the ones that come first; and of its group alone where no other of it is missing.
pub record IsRecipeOf (code : Code) (missing : FragmentSet) (f : Fragment) (r : LrcRecipe) : Type 0 where
  pub within : f.value < fragment_count code
  pub sixteen : length r.coefficients ≡ 16
  pub encoded : r ≡ encoded_recipe code f r.coefficients
  pub copied : IsFalse (missing f.value) → r.coefficients ≡ only_itself f.value
  pub rebuilt : IsTrue (missing f.value) → IsFirstRecipe code missing f.value (λ g. get_or r.coefficients g 0)
  pub local : IsTrue (missing f.value) → IsTrue (is_local code missing f) → (g : Fragment) →
      get_or r.coefficients g.value 0 ≡ (if share_class code f g && not (same_fragment f g) then 1 else 0)
