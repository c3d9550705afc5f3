use Rattle.std.proofs.Common.{sym, ◌∙◌}
use Rattle.lrc_rows.specs.NodeStates.{states_in}
use Rattle.lrc_nodes.proofs.StateLemmas.{node_at-states}
use Rattle.lrc_rows.proofs.node_table.NodeTable.node.Goals as goal

pub returns : goal.returns
unfolding states_in
returns c = rw (← c.self.view_is) (c.node.ensures ∙ sym (node_at-states c.self.inside.nodes c.args.number))
