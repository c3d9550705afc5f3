use Rattle.std.proofs.Common.{sym, ◌∙◌}
use Rattle.std.proofs.lemmas.List.{length-map}
use Rattle.lrc_nodes.specs.declared.node_state.NodeState.{NodeState}
use Rattle.lrc_rows.specs.NodeStates.{states_in}
use Rattle.lrc_rows.proofs.node_table.NodeTable.len.Goals as goal

pub returns : goal.returns
unfolding states_in
returns c = rw (← c.self.view_is) (c.len.ensures ∙ sym (length-map c.self.inside.nodes (λ (x : NodeState). x.node)))
