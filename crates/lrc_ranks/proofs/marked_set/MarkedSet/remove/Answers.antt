use Rattle.lrc_ranks.proofs.MarkedLemmas.{marked-remove, marked-without}
use Rattle.lrc_ranks.proofs.marked_set.MarkedSet.remove.Goals as goal

pub invariant_of-self : goal.invariant_of-self
invariant_of-self c =
    rw c.remove-then-not-has_near.ensures
    (marked-without c.self.inside.set c.remove.new.self c.self.inside.marks c.args.stripe c.self.invariant c.remove.ensures (c.has_near.ensures.none c.if-not-has_near.true))

pub invariant_of-self-else-not-has_near : goal.invariant_of-self-else-not-has_near
invariant_of-self-else-not-has_near c =
    marked-remove c.self.inside.set c.remove.new.self c.self.inside.marks c.args.stripe c.self.invariant c.remove.ensures (c.has_near.ensures.some c.if-not-has_near.false)

pub returns-then-not-has_near : goal.returns-then-not-has_near
returns-then-not-has_near c = rw (← c.self.view_is) c.remove.ensures

pub returns-else-not-has_near : goal.returns-else-not-has_near
returns-else-not-has_near c = rw (← c.self.view_is) c.remove.ensures
