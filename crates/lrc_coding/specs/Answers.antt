-- Which recipe is asked for, and why there is none.
use Rattle.std.specs.Prelude.{◌≡◌, ◌≢◌, ℕ, ◌<◌, List, decimal, get_or, Option, Some, None, Result, Ok, Err, IsTrue, IsFalse}
use Rattle.lrc_code.specs.declared.codes.Code.{Code}
use Rattle.lrc_code.specs.Codes.{fragment_count}
use Rattle.lrc_code.specs.Losses.{bits_set}
use Rattle.lrc_field.specs.declared.recipes.Recipe.{Recipe}
use Rattle.lrc_field.specs.Recipes.{IsFirstRecipe}
use Rattle.lrc_field.specs.Stripes.{Determines, outside}
use Rattle.lrc_coding.specs.declared.refusal.RecipeRefusal.{RecipeRefusal}
use Rattle.lrc_coding.specs.declared.refusal.RecipeRefusal.TheVariants.{NoMask, NoFragment, NotMissing, Undetermined}

-- the coefficient of each fragment in a recipe
abbrev pub coefficient_in : Recipe → ℕ → ℕ
coefficient_in recipe g = get_or recipe.coefficients g 0

-- the word is the number of a fragment of the code, in decimal
abbrev pub IsNumberOf : Code → List ℕ → ℕ → Type 0
IsNumberOf code word f = (f < fragment_count code) × (word ≡ decimal f)

-- the word is that of a fragment that is in the set
abbrev pub IsMissing : Code → ℕ → List ℕ → ℕ → Type 0
IsMissing code bits word f = IsNumberOf code word f × IsTrue (bits_set bits f)

-- the answer to a set of losses, as bits, and to a word for a fragment
abbrev pub IsAnswerTo : Code → ℕ → List ℕ → Result Recipe RecipeRefusal → Type 0
IsAnswerTo code bits word (Ok recipe) = (f : ℕ) × IsMissing code bits word f × IsFirstRecipe code (bits_set bits) f (coefficient_in recipe)
IsAnswerTo code bits word (Err NoMask) = ⊥
IsAnswerTo code bits word (Err NoFragment) = (f : ℕ) → f < fragment_count code → word ≢ decimal f
IsAnswerTo code bits word (Err (NotMissing f)) = IsNumberOf code word f.value × IsFalse (bits_set bits f.value)
IsAnswerTo code bits word (Err (Undetermined f)) = IsMissing code bits word f.value × ¬ Determines code (outside (bits_set bits)) f.value

-- the same, where there may be no set of losses
abbrev pub IsAnswer : Code → Option ℕ → List ℕ → Result Recipe RecipeRefusal → Type 0
IsAnswer code (Some bits) word answer = IsAnswerTo code bits word answer
IsAnswer code None word answer = answer ≡ Err NoMask
