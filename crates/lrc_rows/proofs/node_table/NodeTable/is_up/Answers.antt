use Rattle.lrc_rows.specs.NodeStates.{states_in}
use Rattle.lrc_rows.proofs.node_table.NodeTable.is_up.Goals as goal

pub returns : goal.returns
unfolding states_in
returns c = rw (← c.self.view_is) c.is_up.ensures
