use Rattle.std.proofs.Common.{[]}
use Rattle.lrc_forecast.proofs.OutageLemmas.{missing-after, homeless-stopped, homeless-lost}
use Rattle.lrc_forecast.proofs.laws.an_outage_in_words.Goals as goal

pub returns-clause-missing : goal.returns-clause-missing
returns-clause-missing c = λ nodes st outage ns s f seated. missing-after nodes st ns s f outage seated.one_home

pub returns-clause-homeless_stopped : goal.returns-clause-homeless_stopped
returns-clause-homeless_stopped c = λ st ns s f. homeless-stopped [] st ns s f

pub returns-clause-homeless_lost : goal.returns-clause-homeless_lost
returns-clause-homeless_lost c = λ nodes st ns s f seated. homeless-lost nodes st ns s f seated.one_home
