use Rattle.lrc_slots.proofs.TableLemmas.{slots_of-nodes}
use Rattle.lrc_slots.proofs.BarredNodesLemmas.{barred-fault}
use Rattle.lrc_slots.proofs.table.SlotTable.bar_fault_in.Goals as goal

pub returns : goal.returns
returns c = λ b all.
    let s = c.self.inside in
    let h = c.self.invariant in
    let known = rw (← c.self.view_is, slots_of-nodes s.rows.items) at all in
    rw (← c.self.view_is, slots_of-nodes s.rows.items)
    (barred-fault h.by_ordinal b c.args.barred_nodes.now c.bar.new.self c.ordinals_of.result.now known c.bar.ensures c.args.domain
    h.by_fault c.ordinals_of.ensures.members)
