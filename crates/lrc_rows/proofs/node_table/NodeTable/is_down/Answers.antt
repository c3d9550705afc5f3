use Rattle.lrc_rows.proofs.node_table.NodeTable.is_down.Goals as goal

pub returns : goal.returns
returns c = rw (← c.self.view_is) c.is_down.ensures
