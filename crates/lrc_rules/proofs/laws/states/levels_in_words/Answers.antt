use Rattle.lrc_terms.proofs.LevelLemmas.{law_lost, law_unavailable, law_at_risk, law_whole}
use Rattle.lrc_rules.specs.States.{code_of, homeless, missing}
use Rattle.lrc_rules.proofs.laws.states.levels_in_words.Goals as goal

pub returns : goal.returns
returns c = record {
  lost = λ nodes st s. law_lost (code_of st s) (homeless st s) (missing nodes st s);
  unavailable = λ nodes st s. law_unavailable (code_of st s) (homeless st s) (missing nodes st s);
  at_risk = λ nodes st s t. law_at_risk (code_of st s) (homeless st s) (missing nodes st s) t;
  whole = λ nodes st s. law_whole (code_of st s) (homeless st s) (missing nodes st s);
}
