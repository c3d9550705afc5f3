use Rattle.std.proofs.Common.{Some, arith, sym, ap, ◌∙◌, Option, option_map}
use Rattle.lrc_topology.specs.declared.NodeInfo.{NodeInfo}
use Rattle.lrc_nodes.specs.declared.node_state.NodeState.{NodeState}
use Rattle.lrc_nodes.specs.Kept.{StateBits}
use Rattle.lrc_nodes.proofs.KeptLemmas.{place-within, seen-state, unseen-state}
use Rattle.lrc_nodes.proofs.nodes.Nodes.node.Goals as goal

pub returns-in_err-position : goal.returns-in_err-position
returns-in_err-position c =
    c.from_residual.ensures
    ∙ sym (ap (λ (o : Option NodeState). option_map (λ x. x.node) o) (unseen-state c.args.self.now c.args.number (sym c.position.ensures ∙ c.in_err-position.was)))

pub index-requires : goal.index-requires
index-requires c =
    let s = c.self.inside in
    let bits : StateBits = record { gone = s.gone; draining = s.draining; down = s.down; upgrading = s.upgrading } in
    let within = place-within s.list.items bits c.args.self.now c.self.view_is c.args.number c.in_ok-position.position (sym c.position.ensures ∙ c.in_ok-position.was) in
    omega (arith, within, s.list.ok.0)

pub returns : goal.returns
returns c =
    let s = c.self.inside in
    let bits : StateBits = record { gone = s.gone; draining = s.draining; down = s.down; upgrading = s.upgrading } in
    ap (λ (n : NodeInfo). Some n) c.index.ensures
    ∙ sym (ap (λ (o : Option NodeState). option_map (λ x. x.node) o) (seen-state s.list.items bits c.args.self.now c.self.view_is c.args.number c.in_ok-position.position (sym c.position.ensures ∙ c.in_ok-position.was) c.index.result.now))
