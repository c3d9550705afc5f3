use Rattle.lrc_field.proofs.WhichLemmas.{which_determined, few_determine}
use Rattle.lrc_field.proofs.SomeRecipeLemmas.{some_recipe}
use Rattle.lrc_field.proofs.laws.determined_fragments.Goals as goal

pub returns : goal.returns
returns c = record { which = which_determined; fewest = few_determine; recipe = some_recipe }
