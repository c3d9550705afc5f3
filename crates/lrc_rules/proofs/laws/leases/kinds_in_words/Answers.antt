use Rattle.lrc_rules.proofs.KindLemmas.{move-told, home-told, local-told, told-local, local3-told, told-local3, global-told, none-told}
use Rattle.lrc_rules.proofs.laws.leases.kinds_in_words.Goals as goal

pub returns-clause-own : goal.returns-clause-own
returns-clause-own c = λ nodes st s f. (move-told nodes st s f, home-told nodes st s f)

pub returns-clause-local : goal.returns-clause-local
returns-clause-local c = λ nodes st s f sources. (local-told nodes st s f sources, λ so. told-local nodes st s f sources so.0 so.1)

pub returns-clause-local3 : goal.returns-clause-local3
returns-clause-local3 c = λ nodes st s f sources. (local3-told nodes st s f sources, λ so. told-local3 nodes st s f sources so.0 so.1)

pub returns-clause-global : goal.returns-clause-global
returns-clause-global c = λ nodes st s f. (global-told nodes st s f, λ so. none-told nodes st s f so.0 so.1)
