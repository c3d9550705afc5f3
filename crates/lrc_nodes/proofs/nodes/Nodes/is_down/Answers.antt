use Rattle.std.proofs.Common.{Option, false, sym, ap, ◌∙◌}
use Rattle.std.specs.Option.{option_map_or}
use Rattle.lrc_nodes.specs.declared.node_state.NodeState.{NodeState}
use Rattle.lrc_nodes.proofs.StateLemmas.{no_state, placed-state}
use Rattle.lrc_nodes.proofs.KeptLemmas.{unseen-state}
use Rattle.lrc_nodes.proofs.nodes.Nodes.is_down.Goals as goal

pub at-requires : goal.at-requires
at-requires c = (placed-state c.args.self.now c.args.number c.in-Some.position (sym c.position.ensures ∙ c.in-Some.is)).0

pub returns-in-Some : goal.returns-in-Some
returns-in-Some c =
    let placed = placed-state c.args.self.now c.args.number c.in-Some.position (sym c.position.ensures ∙ c.in-Some.is) in
    ap (λ (x : NodeState). x.is_down) (c.at.ensures no_state) ∙ sym (ap (λ (o : Option NodeState). option_map_or (λ x. x.is_down) o false) placed.1)

pub returns-in-None : goal.returns-in-None
returns-in-None c = sym (ap (λ (o : Option NodeState). option_map_or (λ x. x.is_down) o false) (unseen-state c.args.self.now c.args.number (sym c.position.ensures ∙ c.in-None.is)))
