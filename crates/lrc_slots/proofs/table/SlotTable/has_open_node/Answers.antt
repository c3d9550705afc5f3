use Rattle.lrc_slots.proofs.WalkLemmas.{open-known}
use Rattle.lrc_slots.proofs.table.SlotTable.has_open_node.Goals as goal

pub returns : goal.returns
returns c =
    let s = c.self.inside in
    let h = c.self.invariant in
    rw (← c.self.view_is) (open-known s.rows.items h.nodes h.by_ordinal h.by_load c.has_any.result c.has_any.ensures.some c.has_any.ensures.none)
