-- What is rebuilt by the recipe of a fragment.
use Rattle.std.proofs.Common.{◌≡◌, ℕ, ◌<◌, List, length, get_or, IsTrue, inl, inr}
use Rattle.std.proofs.lemmas.Bool.{cases_Bool}
use Rattle.lrc_code.specs.declared.codes.Code.{Code}
use Rattle.lrc_code.specs.declared.numbers.Fragment.{Fragment}
use Rattle.lrc_code.specs.Losses.{FragmentSet}
use Rattle.lrc_field.specs.Recipes.{read_by}
use Rattle.lrc_field.specs.Stripes.{Bytes, IsStripe}
use Rattle.lrc_coder.specs.Buffers.{bytes_at, each_of}
use Rattle.lrc_coder.specs.Coding.{Gives, IsRebuilt}
use Rattle.lrc_records.specs.Recipes.{IsRecipeOf}
use Rattle.lrc_records.specs.declared.recipe.LrcRecipe.{LrcRecipe}

-- a recipe gives its fragment
gives : (code : Code) (missing : FragmentSet) (f : Fragment) (r : LrcRecipe) → IsRecipeOf code missing f r → Gives code f.value r.coefficients
gives code missing f r is = elim (cases_Bool (missing f.value)) [
  | inl lost ↦ inl (missing, (is.rebuilt lost).recipe)
  | inr there ↦ inr (is.within, is.copied there)
]

pub rebuilt_is_own : (code : Code) (missing : FragmentSet) (f : Fragment) (r : LrcRecipe) (fragments : List (List ℕ)) (before after : List ℕ) (i : ℕ) (v : Bytes) → IsRecipeOf code missing f r
    → IsRebuilt code r.coefficients fragments before after → IsStripe code v → ((g : ℕ) → IsTrue (read_by (each_of r.coefficients) g) → bytes_at fragments i g ≡ v g) → i < length before → get_or after i 0 ≡ v f.value
rebuilt_is_own code missing f r fragments before after i v is rebuilt stripe same low = rebuilt.exact f.value i v (gives code missing f r is) stripe same low
