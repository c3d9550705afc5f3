use Rattle.std.proofs.Common.{Some, None, sym, ap, ◌∙◌}
use Rattle.lrc_slots.proofs.ChoiceLemmas.{next_node-row, least_free-row}
use Rattle.lrc_slots.proofs.table.SlotTable.open_beside.Goals as goal

pub returns-in_err-row-clause-node : goal.returns-in_err-row-clause-node
returns-in_err-row-clause-node g c =
    let first = c.in_err-row.ensures in
    rw c.from_residual.ensures (sym (next_node-row c.args.self.now (g.B.Barring.barred c.args.bars.now) None first.nodes first.row))

pub returns-clause-node : goal.returns-clause-node
returns-clause-node g c =
    let first = c.in_ok-row.ensures in
    ap Some c.open.ensures.node
    ∙ sym (next_node-row c.args.self.now (g.B.Barring.barred c.args.bars.now) (Some c.in_ok-row.row.now) first.nodes first.row)

pub returns-clause-slot : goal.returns-clause-slot
returns-clause-slot g c =
    rw c.open.ensures.node (least_free-row c.args.self.now c.in_ok-row.row.now c.in_ok-row.ensures.nodes c.in_ok-row.ensures.known
    ∙ c.open.ensures.slot)
