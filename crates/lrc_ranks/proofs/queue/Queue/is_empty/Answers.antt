use Rattle.lrc_ranks.proofs.queue.Queue.is_empty.Goals as goal

pub returns-clause-none : goal.returns-clause-none
returns-clause-none c = rw (← c.self.view_is) c.is_empty.ensures.none

pub returns-clause-some : goal.returns-clause-some
returns-clause-some c = rw (← c.self.view_is) c.is_empty.ensures.some
