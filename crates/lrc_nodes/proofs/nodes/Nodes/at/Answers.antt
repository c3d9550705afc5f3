use Rattle.std.proofs.Common.{Bool, false, get_or, arith, ap₂, ◌∙◌}
use Rattle.lrc_topology.specs.declared.NodeInfo.{NodeInfo}
use Rattle.lrc_terms.specs.declared.mode.Mode.{Mode}
use Rattle.lrc_nodes.specs.declared.node_state.NodeState.{NodeState}
use Rattle.lrc_nodes.specs.Kept.{StateBits, mode_by}
use Rattle.lrc_nodes.proofs.KeptLemmas.{seen-long, seen-at}
use Rattle.lrc_nodes.proofs.nodes.Nodes.at.Goals as goal

pub index-node-requires : goal.index-node-requires
index-node-requires c =
    let s = c.self.inside in
    let bits : StateBits = record { gone = s.gone; draining = s.draining; down = s.down; upgrading = s.upgrading } in
    let long = seen-long s.list.items bits c.args.self.now c.self.view_is in
    omega (arith, long, c.requires, s.list.ok.0)

pub contains-is_gone-requires : goal.contains-is_gone-requires
contains-is_gone-requires c =
    let s = c.self.inside in
    let bits : StateBits = record { gone = s.gone; draining = s.draining; down = s.down; upgrading = s.upgrading } in
    let long = seen-long s.list.items bits c.args.self.now c.self.view_is in
    omega (arith, long, c.requires, c.self.invariant.few, c.self.invariant.states.gone.long)

pub contains-is_draining-requires : goal.contains-is_draining-requires
contains-is_draining-requires c =
    let s = c.self.inside in
    let bits : StateBits = record { gone = s.gone; draining = s.draining; down = s.down; upgrading = s.upgrading } in
    let long = seen-long s.list.items bits c.args.self.now c.self.view_is in
    omega (arith, long, c.requires, c.self.invariant.few, c.self.invariant.states.draining.long)

pub contains-is_down-requires : goal.contains-is_down-requires
contains-is_down-requires c =
    let s = c.self.inside in
    let bits : StateBits = record { gone = s.gone; draining = s.draining; down = s.down; upgrading = s.upgrading } in
    let long = seen-long s.list.items bits c.args.self.now c.self.view_is in
    omega (arith, long, c.requires, c.self.invariant.few, c.self.invariant.states.down.long)

pub contains-is_upgrading-requires : goal.contains-is_upgrading-requires
contains-is_upgrading-requires c =
    let s = c.self.inside in
    let bits : StateBits = record { gone = s.gone; draining = s.draining; down = s.down; upgrading = s.upgrading } in
    let long = seen-long s.list.items bits c.args.self.now c.self.view_is in
    omega (arith, long, c.requires, c.self.invariant.few, c.self.invariant.states.upgrading.long)

pub returns : goal.returns
returns c = λ d.
    let s = c.self.inside in
    let bits : StateBits = record { gone = s.gone; draining = s.draining; down = s.down; upgrading = s.upgrading } in
    let long = seen-long s.list.items bits c.args.self.now c.self.view_is in
    let state : NodeInfo → Mode → Bool → Bool → NodeState = λ n m down upgrading. record { node = n; mode = m; is_down = down; is_upgrading = upgrading } in
    ap₂ (λ (n : NodeInfo) (m : Mode). state n m c.contains-is_down.result c.contains-is_upgrading.result) c.index-node.ensures
    (c.mode_by.ensures ∙ ap₂ mode_by c.contains-is_gone.ensures c.contains-is_draining.ensures)
    ∙ (ap₂ (λ (x y : Bool). state (get_or s.list.items c.args.position c.index-node.result.now) (mode_by (get_or s.gone c.args.position false) (get_or s.draining c.args.position false)) x y) c.contains-is_down.ensures c.contains-is_upgrading.ensures
    ∙ seen-at s.list.items bits c.args.self.now c.self.view_is c.args.position d c.index-node.result.now (omega (arith, long, c.requires)))
