use Rattle.lrc_ranks.proofs.QueueLemmas.{rank-shown}
use Rattle.lrc_ranks.proofs.queue.Queue.rank.Goals as goal

pub returns-clause-shown : goal.returns-clause-shown
returns-clause-shown c = rw (← c.self.view_is) (rank-shown c.self.inside.ranks c.args.stripe c.rank.result c.self.invariant c.rank.ensures.some c.rank.ensures.none)
