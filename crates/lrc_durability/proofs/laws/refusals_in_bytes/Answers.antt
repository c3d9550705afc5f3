use Rattle.lrc_durability.proofs.LeaseByteLemmas.{refused_bytes, recipe_bytes}
use Rattle.lrc_durability.proofs.laws.refusals_in_bytes.Goals as goal

pub returns-clause-unrecoverable : goal.returns-clause-unrecoverable
returns-clause-unrecoverable c = λ nodes past st session s f. refused_bytes nodes st s f past session

pub returns-clause-recipe : goal.returns-clause-recipe
returns-clause-recipe c = recipe_bytes
