use Rattle.std.proofs.Common.{arith, ap, ◌∙◌}
use Rattle.lrc_nodes.specs.declared.node_state.NodeState.{NodeState}
use Rattle.lrc_nodes.specs.Kept.{StateBits}
use Rattle.lrc_nodes.proofs.KeptLemmas.{seen-long, seen-at}
use Rattle.lrc_nodes.proofs.nodes.Nodes.node_at.Goals as goal

pub index-requires : goal.index-requires
index-requires c =
    let s = c.self.inside in
    let bits : StateBits = record { gone = s.gone; draining = s.draining; down = s.down; upgrading = s.upgrading } in
    let long = seen-long s.list.items bits c.args.self.now c.self.view_is in
    omega (arith, long, c.requires, s.list.ok.0)

pub returns : goal.returns
returns c = λ d.
    let s = c.self.inside in
    let bits : StateBits = record { gone = s.gone; draining = s.draining; down = s.down; upgrading = s.upgrading } in
    let long = seen-long s.list.items bits c.args.self.now c.self.view_is in
    c.index.ensures ∙ ap (λ (x : NodeState). x.node) (seen-at s.list.items bits c.args.self.now c.self.view_is c.args.position d c.index.result.now (omega (arith, long, c.requires)))
