use Rattle.lrc_rows.proofs.RowsLemmas.{are_queued-upgrading, are_queued-idle}
use Rattle.lrc_rows.proofs.rows.Rows.set_upgrading_in.Goals as goal

pub invariant_of-self : goal.invariant_of-self
invariant_of-self c =
    let t = c.self.inside in
    rw c.renew.ensures.planes
    (are_queued-upgrading t.list.items t.upgrading c.set.new.self t.needs.items t.there t.work c.renew.new.work t.planes c.self.invariant c.renew.ensures.ranks.more c.renew.ensures.ranks.each c.renew.ensures.ranks.ranks)

pub invariant_of-self-else-has_work : goal.invariant_of-self-else-has_work
invariant_of-self-else-has_work c =
    let t = c.self.inside in
    let none = c.has_work-has_work.ensures.none c.if-has_work.false in
    let idle = rw (← c.self.view_is) at none in
    are_queued-idle t.list.items t.upgrading c.set.new.self t.needs.items t.there t.work t.planes c.self.invariant idle
