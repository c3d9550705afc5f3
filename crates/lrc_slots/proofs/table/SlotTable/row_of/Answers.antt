use Rattle.std.proofs.Common.{sym}
use Rattle.lrc_slots.proofs.TableLemmas.{row_at-position, row_at-absent}
use Rattle.lrc_slots.proofs.table.SlotTable.row_of.Goals as goal

pub returns-in_err-position : goal.returns-in_err-position
returns-in_err-position c = rw c.from_residual.ensures (sym (row_at-absent c.args.self.now c.args.node (sym c.in_err-position.ensures)))

pub returns : goal.returns
returns c =
    rw (← c.self.view_is)
    (sym (row_at-position c.self.inside.rows.items c.args.node c.in_ok-position.position c.index.result.now
    (rw (← c.self.view_is) at (sym c.in_ok-position.ensures)) c.index.ensures))
