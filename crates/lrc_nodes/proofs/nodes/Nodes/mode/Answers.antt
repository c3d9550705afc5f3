use Rattle.std.proofs.Common.{Some, Option, option_map, sym, ap, ◌∙◌}
use Rattle.lrc_nodes.specs.declared.node_state.NodeState.{NodeState}
use Rattle.lrc_nodes.proofs.StateLemmas.{no_state, placed-state}
use Rattle.lrc_nodes.proofs.KeptLemmas.{unseen-state}
use Rattle.lrc_nodes.proofs.nodes.Nodes.mode.Goals as goal

pub returns-in_err-position : goal.returns-in_err-position
returns-in_err-position c =
    c.from_residual.ensures
    ∙ sym (ap (λ (o : Option NodeState). option_map (λ x. x.mode) o) (unseen-state c.args.self.now c.args.number (sym c.position.ensures ∙ c.in_err-position.was)))

pub at-requires : goal.at-requires
at-requires c = (placed-state c.args.self.now c.args.number c.in_ok-position.position (sym c.position.ensures ∙ c.in_ok-position.was)).0

pub returns : goal.returns
returns c =
    let placed = placed-state c.args.self.now c.args.number c.in_ok-position.position (sym c.position.ensures ∙ c.in_ok-position.was) in
    ap (λ (x : NodeState). Some x.mode) (c.at.ensures no_state) ∙ sym (ap (λ (o : Option NodeState). option_map (λ x. x.mode) o) placed.1)
