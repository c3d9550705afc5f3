use Rattle.lrc_records.proofs.RecipeLemmas.{one_recipe}
use Rattle.lrc_records.proofs.laws.one_recipe_of_a_fragment.Goals as goal

pub returns : goal.returns
returns c = one_recipe
