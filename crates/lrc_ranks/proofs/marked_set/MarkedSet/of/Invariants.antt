use Rattle.lrc_ranks.proofs.MarkedLemmas.{AreMarkedBelow}
use Rattle.lrc_ranks.proofs.marked_set.MarkedSet.of.Given as goal

-- the blocks that are passed are marked where they have a member
abbrev pub invariant-loop-index : goal.invariant-loop-index
invariant-loop-index l = AreMarkedBelow l.set l.marks l.index
