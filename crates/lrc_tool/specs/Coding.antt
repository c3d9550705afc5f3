-- What is written of losses, of recipes and of generator matrices.
use Rattle.std.specs.Prelude.{◌≡◌, ℕ, List, Option, Some, None, Result, Ok, Err}
use Rattle.lrc_code.specs.declared.codes.Code.{Code}
use Rattle.lrc_field.specs.declared.recipes.Recipe.{Recipe}
use Rattle.lrc_coding.specs.declared.refusal.RecipeRefusal.{RecipeRefusal}
use Rattle.lrc_coding.specs.Answers.{coefficient_in, IsAnswer}
use Rattle.lrc_coding.specs.Told.{recipe_text, recipe_refusal_text}
use Rattle.lrc_text.specs.Masks.{mask_of}
use Rattle.lrc_outputs.specs.declared.status.Status.{Status}
use Rattle.lrc_outputs.specs.declared.status.Status.TheVariants as ended
use Rattle.lrc_tool.specs.Answering.{Outcomes}
use Rattle.lrc_tool.specs.Inputs.{is_refusal}

-- ---- losses

-- the status for a mask, and for a word that is none
abbrev pub mask_status : Option ℕ → Status
mask_status (Some bits) = ended.Done
mask_status None = ended.Refused

-- the status for this word of losses of a stripe of the code
abbrev pub recovery_status : Code → List ℕ → Status
recovery_status code word = mask_status (mask_of code word)

-- ---- recipes

-- the table of a recipe, or the line that says why there is none
abbrev pub told_text : Result Recipe RecipeRefusal → List ℕ
told_text (Ok recipe) = recipe_text (coefficient_in recipe)
told_text (Err refusal) = recipe_refusal_text refusal

-- its status
abbrev pub told_status : Result Recipe RecipeRefusal → Status
told_status (Ok recipe) = ended.Done
told_status (Err refusal) = ended.Refused

-- the recipe that a word for a set of losses and a word for a fragment ask for, or why there is none, as a text
pub record IsRecipeText (code : Code) (mask fragment text : List ℕ) (status : Status) : Type 0 where
  pub answer : Result Recipe RecipeRefusal
  pub answered : IsAnswer code (mask_of code mask) fragment answer
  pub told : text ≡ told_text answer
  pub ended : status ≡ told_status answer

-- what is written for these words: the recipe to the first sink, or to the second why there is none
abbrev pub rebuilding : Code → List ℕ → List ℕ → Outcomes
rebuilding code mask fragment =
    record { is_outcome = IsRecipeText code mask fragment; is_apart = is_refusal; is_fault = λ e. ⊥ }
