use Rattle.lrc_rows.proofs.node_table.NodeTable.mode.Goals as goal

pub returns : goal.returns
returns c = rw (← c.self.view_is) c.mode.ensures
