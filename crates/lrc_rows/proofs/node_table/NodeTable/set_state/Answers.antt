use Rattle.std.proofs.Common.{List, sym, ap, subst, ◌∙◌}
use Rattle.lrc_nodes.specs.declared.node_state.NodeState.{NodeState}
use Rattle.lrc_nodes.specs.States.{with_state}
use Rattle.lrc_nodes.proofs.SetLemmas.{same-state}
use Rattle.lrc_rows.specs.NodeStates.{AreNodes, NodeLists}
use Rattle.lrc_rows.proofs.NodeLemmas.{nodes-kept}
use Rattle.lrc_rows.proofs.NodeStateLemmas.{known-state}
use Rattle.lrc_rows.proofs.node_table.NodeTable.set_state.Goals as goal

pub set_state-requires : goal.set_state-requires
set_state-requires c = known-state c.self.inside.nodes c.self.inside.stripes.items c.args.self.now c.self.view_is c.args.number c.requires

pub invariant_of-self : goal.invariant_of-self
invariant_of-self c =
    let s = c.self.inside in
    subst (λ (xs : List NodeState). AreNodes xs s.stripes.items) (sym c.set_state.ensures)
    (nodes-kept s.nodes _ s.stripes.items (same-state s.nodes c.args.number c.args.mode c.args.is_down) c.self.invariant)

pub returns : goal.returns
returns c =
    let s = c.self.inside in
    ap (λ (xs : List NodeState). let t : NodeLists = record { list = xs; stripes = s.stripes.items } in t) c.set_state.ensures
    ∙ ap (λ (t : NodeLists). record t { list = with_state t.list c.args.number c.args.mode c.args.is_down }) c.self.view_is
