use Rattle.lrc_terms.specs.Levels.{homeless_in, missing_in}
use Rattle.lrc_terms.proofs.LevelLemmas.{law_rank, homeless-missing}
use Rattle.lrc_terms.proofs.laws.levels_of_sets_show_ranks.Goals as goal

pub returns : goal.returns
returns c = record {
  sets = law_rank;
  homes = λ code online homes. law_rank code (homeless_in code homes) (missing_in code online homes) (λ f within bare. homeless-missing code online homes f bare);
}
