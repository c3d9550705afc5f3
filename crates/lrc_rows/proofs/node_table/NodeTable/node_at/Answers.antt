use Rattle.std.proofs.Common.{◌<◌, length, map, sym, ◌∙◌, arith, subst}
use Rattle.std.proofs.lemmas.List.{length-map, get_or-map}
use Rattle.lrc_nodes.specs.declared.node_state.NodeState.{NodeState}
use Rattle.lrc_rows.specs.NodeStates.{NodeLists, states_in}
use Rattle.lrc_nodes.proofs.StateLemmas.{no_state}
use Rattle.lrc_rows.proofs.node_table.NodeTable.node_at.Goals as goal

pub node_at-requires : goal.node_at-requires
unfolding states_in
node_at-requires c =
    let inside : c.args.position < length (map (λ (x : NodeState). x.node) c.self.inside.nodes) = subst (λ (t : NodeLists). c.args.position < length (states_in t).nodes) (sym c.self.view_is) c.requires in
    let long = length-map c.self.inside.nodes (λ (x : NodeState). x.node) in
    omega (arith, inside, long)

pub returns : goal.returns
unfolding states_in
returns c = λ d.
    let inside : c.args.position < length (map (λ (x : NodeState). x.node) c.self.inside.nodes) = subst (λ (t : NodeLists). c.args.position < length (states_in t).nodes) (sym c.self.view_is) c.requires in
    let long = length-map c.self.inside.nodes (λ (x : NodeState). x.node) in
    rw (← c.self.view_is) (c.node_at.ensures no_state ∙ sym (get_or-map (λ (x : NodeState). x.node) c.self.inside.nodes c.args.position no_state d (omega (arith, inside, long))))
