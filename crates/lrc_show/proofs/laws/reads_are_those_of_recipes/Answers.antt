use Rattle.lrc_show.proofs.ReadsLemmas.{rebuilt, none, moved}
use Rattle.lrc_show.proofs.laws.reads_are_those_of_recipes.Goals as goal

pub returns : goal.returns
returns c = record {
  rebuilt = λ nodes st s f c lost recipe. rebuilt nodes st s f lost c recipe;
  none = none;
  moved = moved;
}
