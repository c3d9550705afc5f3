use Rattle.lrc_sessions.specs.Runs.{Passes}
use Rattle.lrc_sessions.proofs.OpenedLemmas.{all_fresh, all_ran}
use Rattle.lrc_sessions.proofs.laws.opened_sessions_are_all.Goals as goal

pub returns-clause-opened : goal.returns-clause-opened
returns-clause-opened g c = all_fresh

pub returns-clause-ran : goal.returns-clause-ran
returns-clause-ran g c = λ count limit scripts before after tracks all len ran. all_ran count limit g.G.Gate.most _ (Passes g.G.Gate.lets g.G.Gate.tells) scripts before after tracks all len ran
