use Rattle.lrc_rules.proofs.ServedLemmas.{legal-served}
use Rattle.lrc_rules.proofs.laws.histories.legal_histories_are_served.Goals as goal

pub returns : goal.returns
returns c = λ nodes history known legal. legal-served nodes history known legal
