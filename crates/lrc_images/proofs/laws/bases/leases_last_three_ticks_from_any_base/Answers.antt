use Rattle.lrc_rules.proofs.TermLemmas.{live-since, live-from}
use Rattle.lrc_images.proofs.laws.bases.leases_last_three_ticks_from_any_base.Goals as goal

pub returns-clause-since : goal.returns-clause-since
returns-clause-since c = λ nodes base history e es l k known is legal told alone. live-since nodes known base is.good history e es legal l k told alone

pub returns-clause-before : goal.returns-clause-before
returns-clause-before c = λ nodes base history l known is legal live alone. live-from nodes known base is.good history legal l live alone
