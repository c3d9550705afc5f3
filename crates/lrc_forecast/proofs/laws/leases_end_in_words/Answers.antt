use Rattle.lrc_forecast.proofs.LeaseLemmas.{ended-stopped, ends-told, stays-told}
use Rattle.lrc_forecast.proofs.laws.leases_end_in_words.Goals as goal

pub returns-clause-stopped : goal.returns-clause-stopped
returns-clause-stopped c = ended-stopped

pub returns-clause-lost : goal.returns-clause-lost
returns-clause-lost c = λ nodes st ns s l seated. ends-told nodes st ns l seated s

pub returns-clause-others : goal.returns-clause-others
returns-clause-others c = λ nodes st outage ns l seated. stays-told nodes st ns l seated outage
