use Rattle.lrc_ranks.proofs.MarkedLemmas.{marked-again}
use Rattle.lrc_ranks.proofs.marked_set.MarkedSet.again.Goals as goal

pub invariant_of-result : goal.invariant_of-result
invariant_of-result c = marked-again _ _ _ _ _ c.self.invariant c.again.ensures c.new-marks.ensures c.insert_all.ensures.same c.insert_all.ensures.either

pub returns : goal.returns
returns c = rw (← c.self.view_is) c.again.ensures
