use Rattle.lrc_rows.specs.NodeStates.{states_in}
use Rattle.lrc_rows.proofs.node_table.NodeTable.up.Goals as goal

pub returns-clause-each : goal.returns-clause-each
unfolding states_in
returns-clause-each c = λ n. rw (← c.self.view_is) (c.up.ensures.each n)
