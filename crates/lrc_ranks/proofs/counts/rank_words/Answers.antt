use Rattle.std.proofs.Common.{arith}
use Rattle.lrc_ranks.proofs.CountLemmas.{rank-word}
use Rattle.lrc_ranks.proofs.counts.rank_words.Goals as goal

pub returns-clause-ranks : goal.returns-clause-ranks
returns-clause-ranks c = λ k rank n small at_least.
    rank-word c.args.work c.args.local c.args.excess k n (omega arith) (omega arith) (omega arith) (omega arith) small at_least rank
