use Rattle.lrc_field.proofs.FirstRecipeLemmas.{recipe_reads, same_coefficients}
use Rattle.lrc_field.proofs.laws.recipes_by_what_they_read.Goals as goal

pub returns : goal.returns
returns c = record { count = recipe_reads; coefficients = same_coefficients }
