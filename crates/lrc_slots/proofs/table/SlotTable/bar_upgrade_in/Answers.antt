use Rattle.lrc_slots.proofs.TableLemmas.{slots_of-nodes}
use Rattle.lrc_slots.proofs.BarredNodesLemmas.{barred-upgrade}
use Rattle.lrc_slots.proofs.table.SlotTable.bar_upgrade_in.Goals as goal

pub returns : goal.returns
returns c = λ b all.
    let s = c.self.inside in
    let h = c.self.invariant in
    let known = rw (← c.self.view_is, slots_of-nodes s.rows.items) at all in
    rw (← c.self.view_is, slots_of-nodes s.rows.items)
    (barred-upgrade h.by_ordinal b c.args.barred_nodes.now c.bar.new.self c.ordinals_of.result.now known c.bar.ensures c.args.domain
    h.by_upgrade c.ordinals_of.ensures.members)
