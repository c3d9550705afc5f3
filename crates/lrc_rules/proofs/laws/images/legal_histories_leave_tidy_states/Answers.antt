use Rattle.lrc_rules.specs.Histories.{first_world}
use Rattle.lrc_rules.proofs.TidyLemmas.{worlds-tidy, opening-tidy}
use Rattle.lrc_rules.proofs.laws.images.legal_histories_leave_tidy_states.Goals as goal

pub returns-clause-from : goal.returns-clause-from
returns-clause-from c = worlds-tidy

pub returns-clause-first : goal.returns-clause-first
returns-clause-first c = λ nodes history. worlds-tidy nodes first_world history (opening-tidy nodes)
