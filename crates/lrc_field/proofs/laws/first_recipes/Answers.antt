use Rattle.lrc_field.proofs.RisingLemmas.{both_first, one_first, alike_first}
use Rattle.lrc_field.proofs.FirstRecipeLemmas.{first_recipe, one_first_recipe}
use Rattle.lrc_field.proofs.laws.first_recipes.Goals as goal

pub returns : goal.returns
returns c = record { either = one_first; both = λ code s t. (λ both. both_first code s t both.0 both.1, alike_first code s t); some = first_recipe; only = one_first_recipe }
