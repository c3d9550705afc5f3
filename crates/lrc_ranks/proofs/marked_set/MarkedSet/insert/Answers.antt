use Rattle.lrc_ranks.proofs.MarkedLemmas.{marked-insert}
use Rattle.lrc_ranks.proofs.marked_set.MarkedSet.insert.Goals as goal

pub invariant_of-self : goal.invariant_of-self
invariant_of-self c = rw c.insert-2.ensures
    (marked-insert c.self.inside.set c.insert.new.self c.self.inside.marks c.args.stripe c.self.invariant c.insert.ensures)

pub returns : goal.returns
returns c = rw (← c.self.view_is) c.insert.ensures
