use Rattle.std.proofs.Common.{List, sym, ap, subst, ◌∙◌}
use Rattle.lrc_nodes.specs.declared.node_state.NodeState.{NodeState}
use Rattle.lrc_nodes.specs.States.{with_upgrading_in}
use Rattle.lrc_nodes.proofs.SetLemmas.{same-upgrading}
use Rattle.lrc_rows.specs.NodeStates.{AreNodes, NodeLists}
use Rattle.lrc_rows.proofs.NodeLemmas.{nodes-kept}
use Rattle.lrc_rows.proofs.node_table.NodeTable.set_upgrading_in.Goals as goal

pub invariant_of-self : goal.invariant_of-self
invariant_of-self c =
    let s = c.self.inside in
    subst (λ (xs : List NodeState). AreNodes xs s.stripes.items) (sym c.set_upgrading_in.ensures)
    (nodes-kept s.nodes _ s.stripes.items (same-upgrading s.nodes c.args.domain c.args.is_upgrading) c.self.invariant)

pub returns : goal.returns
returns c =
    let s = c.self.inside in
    ap (λ (xs : List NodeState). let t : NodeLists = record { list = xs; stripes = s.stripes.items } in t) c.set_upgrading_in.ensures
    ∙ ap (λ (t : NodeLists). record t { list = with_upgrading_in t.list c.args.domain c.args.is_upgrading }) c.self.view_is
