use Rattle.std.proofs.Common.{false, not, Option, arith, sym, ap, ◌∙◌}
use Rattle.std.specs.Option.{option_map_or}
use Rattle.lrc_nodes.specs.declared.node_state.NodeState.{NodeState}
use Rattle.lrc_nodes.specs.States.{is_node_up, is_node_online, state_at}
use Rattle.lrc_nodes.specs.Kept.{StateBits, state_of}
use Rattle.lrc_nodes.proofs.StateLemmas.{no_state, online-up, offline-down, there-up}
use Rattle.lrc_nodes.proofs.KeptLemmas.{place-low, seen-state}
use Rattle.lrc_nodes.proofs.nodes.Nodes.is_online.Goals as goal

pub position_of-requires : goal.position_of-requires
position_of-requires c = there-up (state_at c.args.self.now c.args.number) (sym c.is_up.ensures ∙ c.if-is_up.true)

pub contains-requires : goal.contains-requires
contains-requires c =
    let s = c.self.inside in
    let bits : StateBits = record { gone = s.gone; draining = s.draining; down = s.down; upgrading = s.upgrading } in
    (omega arith, place-low s.list.items bits c.args.self.now c.self.view_is c.args.number c.position_of.result c.position_of.ensures s.upgrading c.self.invariant.states.upgrading c.self.invariant.few)

pub returns-then-is_up : goal.returns-then-is_up
returns-then-is_up c =
    let s = c.self.inside in
    let bits : StateBits = record { gone = s.gone; draining = s.draining; down = s.down; upgrading = s.upgrading } in
    let seen = seen-state s.list.items bits c.args.self.now c.self.view_is c.args.number c.position_of.result c.position_of.ensures no_state.node in
    let up = sym (ap (λ (o : Option NodeState). option_map_or is_node_up o false) seen) ∙ (sym c.is_up.ensures ∙ c.if-is_up.true) in
    ap not c.contains.ensures ∙ online-up (state_of no_state.node bits c.position_of.result) up ∙ sym (ap (λ (o : Option NodeState). option_map_or is_node_online o false) seen)

pub returns-else-is_up : goal.returns-else-is_up
returns-else-is_up c = c.if-is_up.false ∙ offline-down (state_at c.args.self.now c.args.number) (sym c.is_up.ensures ∙ c.if-is_up.false)
