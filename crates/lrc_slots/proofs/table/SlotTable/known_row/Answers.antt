use Rattle.lrc_slots.proofs.TableLemmas.{row_at-position}
use Rattle.lrc_slots.proofs.table.SlotTable.known_row.Goals as goal

pub returns : goal.returns
returns c =
    rw (← c.self.view_is)
    (row_at-position c.self.inside.rows.items c.args.node c.known_position.result c.index.result.now (rw (← c.self.view_is) at c.known_position.ensures.value) c.index.ensures)
