use Rattle.std.proofs.Common.{lit<, lit≤}
use Rattle.lrc_script.proofs.NumbersLemmas.{no_one}
use Rattle.lrc_script.proofs.front.node_behind.Goals as goal

pub returns-in-None-clause-none : goal.returns-in-None-clause-none
returns-in-None-clause-none c = no_one c.args.text.now c.args.word.now 5 65536 (lit< tt) (lit≤ tt) c.in-None.ensures.none
