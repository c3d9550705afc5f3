use Rattle.lrc_coding.proofs.LawLemmas.{either, one_recipe, one}
use Rattle.lrc_coding.proofs.laws.answers_are_of_one_kind.Goals as goal

pub returns-clause-either : goal.returns-clause-either
returns-clause-either c = λ code mask word. either code word mask

pub returns-clause-recipe : goal.returns-clause-recipe
returns-clause-recipe c = λ code mask word. one_recipe code word mask

pub returns-clause-one : goal.returns-clause-one
returns-clause-one c = λ code mask word. one code word mask
