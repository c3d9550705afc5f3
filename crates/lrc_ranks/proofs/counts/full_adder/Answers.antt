use Rattle.lrc_ranks.proofs.CountLemmas.{adder-sum}
use Rattle.lrc_ranks.proofs.counts.full_adder.Goals as goal

pub returns : goal.returns
returns c = λ k. adder-sum c.args.a c.args.b c.args.c k
