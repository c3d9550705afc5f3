use Rattle.std.proofs.Common.{sym, ◌∙◌}
use Rattle.lrc_slots.proofs.TableLemmas.{node-alone, node-absent}
use Rattle.lrc_slots.proofs.table.SlotTable.node.Goals as goal

pub returns-in_err-row : goal.returns-in_err-row
returns-in_err-row c = c.from_residual.ensures ∙ sym (node-absent c.args.self.now c.args.number (sym c.in_err-row.ensures))

pub returns : goal.returns
returns c = rw c.node.ensures (sym (node-alone c.args.self.now c.args.number c.in_ok-row.row.now (sym c.in_ok-row.ensures)))
