use Rattle.std.proofs.Common.{Some, None, sym, ap, ◌∙◌}
use Rattle.lrc_slots.specs.Barred.{joined}
use Rattle.lrc_slots.proofs.TableLemmas.{slots_of-nodes}
use Rattle.lrc_slots.proofs.ChoiceLemmas.{next_node-row, least_free-row}
use Rattle.lrc_slots.proofs.table.SlotTable.row_outside.Goals as goal

pub returns-in_err-row-clause-node : goal.returns-in_err-row-clause-node
returns-in_err-row-clause-node c = λ b other all more.
    let rows = c.args.self.now in
    let first = c.in_err-row.ensures.row b other (rw (slots_of-nodes rows) at all) (rw (slots_of-nodes rows) at more) in
    rw c.from_residual.ensures (sym (next_node-row rows (joined b other) None c.in_err-row.ensures.nodes first))

pub returns-clause-node : goal.returns-clause-node
returns-clause-node c = λ b other all more.
    let rows = c.args.self.now in
    let first = c.in_ok-row.ensures.row b other (rw (slots_of-nodes rows) at all) (rw (slots_of-nodes rows) at more) in
    ap Some c.open_row.ensures.node ∙ sym (next_node-row rows (joined b other) (Some c.in_ok-row.row.now) c.in_ok-row.ensures.nodes first)

pub returns-clause-slot : goal.returns-clause-slot
returns-clause-slot c =
    rw c.open_row.ensures.node (least_free-row c.args.self.now c.in_ok-row.row.now c.in_ok-row.ensures.nodes c.in_ok-row.ensures.known
    ∙ c.open_row.ensures.slot)
