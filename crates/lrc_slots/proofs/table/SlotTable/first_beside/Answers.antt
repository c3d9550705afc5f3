use Rattle.std.proofs.Common.{ap, sym, ◌∙◌, Some}
use Rattle.lrc_code.specs.Order.{least}
use Rattle.lrc_slots.specs.Indexes.{is_barred_at}
use Rattle.lrc_slots.specs.Rows.{precedes}
use Rattle.lrc_slots.proofs.TableLemmas.{slots_of-nodes}
use Rattle.lrc_slots.proofs.ChoiceLemmas.{open-twice}
use Rattle.lrc_slots.proofs.IndexLemmas.{chosen-row, none-open}
use Rattle.lrc_slots.proofs.WalkLemmas.{row-read, read-room, barred-at}
use Rattle.lrc_slots.proofs.table.SlotTable.first_beside.Goals as goal

pub returns-in_err-ordinal-in-Ok-clause-row : goal.returns-in_err-ordinal-in-Ok-clause-row
returns-in_err-ordinal-in-Ok-clause-row g c =
    let s = c.self.inside in
    let h = c.self.invariant in
    let b = g.B.Barring.barred c.args.bars.now in
    rw (c.from_residual.ensures, ← c.self.view_is)
    (sym (none-open s.rows.items h.nodes h.by_ordinal h.by_load b (is_barred_at s.rows.items s.order.items b) (barred-at h.by_ordinal h.by_load b)
    (rw (c.deref.ensures.value, c.deref-2.ensures.value, c.in_err-ordinal-in-Ok.was) at c.in-Ok.ensures)))

pub returns-in_ok-ordinal-in-Ok-clause-row : goal.returns-in_ok-ordinal-in-Ok-clause-row
returns-in_ok-ordinal-in-Ok-clause-row g c =
    let s = c.self.inside in
    let h = c.self.invariant in
    let b = g.B.Barring.barred c.args.bars.now in
    let least = rw (c.deref.ensures.value, c.deref-2.ensures.value, c.in_ok-ordinal-in-Ok.was) at c.in-Ok.ensures in
    let row = chosen-row s.rows.items h.nodes h.by_ordinal h.by_load b (is_barred_at s.rows.items s.order.items b) (barred-at h.by_ordinal h.by_load b)
    least.0 c.in_ok-ordinal-in-Ok.ordinal c.index-in-Ok.result.now least.1 in
    let here = row-read h.by_ordinal h.by_load least.0 c.in_ok-ordinal-in-Ok.ordinal least.1.here c.index.result.now c.index.ensures
    c.index-in-Ok.result.now c.index-in-Ok.ensures in
    rw (← c.self.view_is) (ap Some here ∙ sym row)

pub returns-in_ok-ordinal-in-Ok-clause-room : goal.returns-in_ok-ordinal-in-Ok-clause-room
returns-in_ok-ordinal-in-Ok-clause-room g c =
    let h = c.self.invariant in
    let least = rw (c.deref.ensures.value, c.deref-2.ensures.value, c.in_ok-ordinal-in-Ok.was) at c.in-Ok.ensures in
    read-room h.by_ordinal h.by_load least.0 c.in_ok-ordinal-in-Ok.ordinal least.1.here c.index.result.now c.index.ensures
    c.index-in-Ok.result.now c.index-in-Ok.ensures

pub returns-in-Err-clause-row : goal.returns-in-Err-clause-row
returns-in-Err-clause-row g c =
    let rows = c.args.self.now in
    let b = g.B.Barring.barred c.args.bars.now in
    let known = rw (slots_of-nodes rows) at c.nodes_in-barred_nodes.ensures in
    c.first_outside_both.ensures.row b b known known ∙ ap (least precedes) (open-twice b rows)
