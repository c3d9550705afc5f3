use Rattle.lrc_forecast.proofs.SafeLemmas.{safe-words}
use Rattle.lrc_forecast.proofs.laws.safe_in_words.Goals as goal

pub returns : goal.returns
returns c = λ nodes st outage ns. safe-words nodes st outage ns
