use Rattle.std.proofs.Common.{◌≡◌, ℕ, ◌||◌, Bool, List, false, get_or, set, IsSome, arith, sym, ap, ap₂, subst, ◌∙◌}
use Rattle.lrc_terms.specs.Modes.{is_gone, is_draining}
use Rattle.lrc_nodes.specs.declared.node_state.NodeState.{NodeState}
use Rattle.lrc_nodes.specs.States.{state_at, with_state}
use Rattle.lrc_nodes.specs.Kept.{StateBits, AreUp, states_from}
use Rattle.lrc_nodes.proofs.SetLemmas.{flag-state}
use Rattle.lrc_nodes.proofs.KeptLemmas.{place-low, marked, kept-state, state-turned}
use Rattle.lrc_nodes.proofs.nodes.Nodes.set_state.Goals as goal

pub contains-is_upgrading-requires : goal.contains-is_upgrading-requires
contains-is_upgrading-requires c =
    let s = c.self.inside in
    let bits : StateBits = record { gone = s.gone; draining = s.draining; down = s.down; upgrading = s.upgrading } in
    (omega arith, place-low s.list.items bits c.args.self.now c.self.view_is c.args.number c.position_of-position.result c.position_of-position.ensures s.upgrading c.self.invariant.states.upgrading c.self.invariant.few)

pub mark-requires : goal.mark-requires
mark-requires c =
    let s = c.self.inside in
    let bits : StateBits = record { gone = s.gone; draining = s.draining; down = s.down; upgrading = s.upgrading } in
    place-low s.list.items bits c.args.self.now c.self.view_is c.args.number c.position_of-position.result c.position_of-position.ensures s.gone c.self.invariant.states.gone c.self.invariant.few

pub mark-requires-2 : goal.mark-requires-2
mark-requires-2 c =
    let s = c.self.inside in
    let bits : StateBits = record { gone = s.gone; draining = s.draining; down = s.down; upgrading = s.upgrading } in
    place-low s.list.items bits c.args.self.now c.self.view_is c.args.number c.position_of-position.result c.position_of-position.ensures s.draining c.self.invariant.states.draining c.self.invariant.few

pub mark-requires-3 : goal.mark-requires-3
mark-requires-3 c =
    let s = c.self.inside in
    let bits : StateBits = record { gone = s.gone; draining = s.draining; down = s.down; upgrading = s.upgrading } in
    place-low s.list.items bits c.args.self.now c.self.view_is c.args.number c.position_of-position.result c.position_of-position.ensures s.down c.self.invariant.states.down c.self.invariant.few

pub mark-requires-4 : goal.mark-requires-4
mark-requires-4 c =
    let s = c.self.inside in
    let bits : StateBits = record { gone = s.gone; draining = s.draining; down = s.down; upgrading = s.upgrading } in
    place-low s.list.items bits c.args.self.now c.self.view_is c.args.number c.position_of-position.result c.position_of-position.ensures s.offline c.self.invariant.off c.self.invariant.few

pub invariant_of-self : goal.invariant_of-self
invariant_of-self c =
    let s = c.self.inside in
    let bits : StateBits = record { gone = s.gone; draining = s.draining; down = s.down; upgrading = s.upgrading } in
    let p = c.position_of-position.result in
    let kept = c.self.invariant in
    let left : c.mark.new.set ≡ set s.gone p (is_gone c.args.mode) = c.mark.ensures ∙ ap (set s.gone p) c.is_gone.ensures in
    let drains : c.mark-2.new.set ≡ set s.draining p (is_draining c.args.mode) = c.mark-2.ensures ∙ ap (set s.draining p) c.is_draining.ensures in
    let leaves : c.mark-4.new.set ≡ set s.offline p (is_gone c.args.mode || (c.args.is_down || get_or s.upgrading p false)) =
    c.mark-4.ensures ∙ ap (set s.offline p) (c.is_offline-is_offline.ensures ∙ ap (λ (b : Bool). is_gone c.args.mode || (c.args.is_down || b)) c.contains-is_upgrading.ensures) in
    let turned = state-turned s.list.items bits c.args.number c.args.mode c.args.is_down c.mark.new.set c.mark-2.new.set c.mark-3.new.set
    (marked s.list.items bits c.args.self.now c.self.view_is c.args.number p c.position_of-position.ensures s.index s.offline s.domains.items s.up.items kept s.gone c.mark.new.set (is_gone c.args.mode) kept.states.gone left)
    (marked s.list.items bits c.args.self.now c.self.view_is c.args.number p c.position_of-position.ensures s.index s.offline s.domains.items s.up.items kept s.draining c.mark-2.new.set (is_draining c.args.mode) kept.states.draining drains)
    (marked s.list.items bits c.args.self.now c.self.view_is c.args.number p c.position_of-position.ensures s.index s.offline s.domains.items s.up.items kept s.down c.mark-3.new.set c.args.is_down kept.states.down c.mark-3.ensures) in
    let there : IsSome (state_at (states_from 0 s.list.items bits) c.args.number) = subst (λ (xs : List NodeState). IsSome (state_at xs c.args.number)) (sym c.self.view_is) c.requires in
    let flags : List Bool = set s.up.items c.from.result c.is_up.result in
    let flag = ap₂ (λ (k : ℕ) (b : Bool). set s.up.items k b) c.from.ensures c.is_up.ensures in
    kept-state s.list.items bits c.args.self.now c.self.view_is c.args.number c.position_of-position.result c.position_of-position.ensures s.index s.offline s.domains.items s.up.items c.self.invariant c.args.mode c.args.is_down _ _ _ _ left drains c.mark-3.ensures leaves flags
    (subst (λ (xs : List NodeState). AreUp xs flags) (sym turned) (flag-state (states_from 0 s.list.items bits) c.args.number c.args.mode c.args.is_down s.up.items flags kept.flagged there (omega arith) flag))

pub returns : goal.returns
returns c =
    let s = c.self.inside in
    let bits : StateBits = record { gone = s.gone; draining = s.draining; down = s.down; upgrading = s.upgrading } in
    let p = c.position_of-position.result in
    let kept = c.self.invariant in
    let left : c.mark.new.set ≡ set s.gone p (is_gone c.args.mode) = c.mark.ensures ∙ ap (set s.gone p) c.is_gone.ensures in
    let drains : c.mark-2.new.set ≡ set s.draining p (is_draining c.args.mode) = c.mark-2.ensures ∙ ap (set s.draining p) c.is_draining.ensures in
    state-turned s.list.items bits c.args.number c.args.mode c.args.is_down c.mark.new.set c.mark-2.new.set c.mark-3.new.set
    (marked s.list.items bits c.args.self.now c.self.view_is c.args.number c.position_of-position.result c.position_of-position.ensures s.index s.offline s.domains.items s.up.items kept s.gone c.mark.new.set (is_gone c.args.mode) kept.states.gone left)
    (marked s.list.items bits c.args.self.now c.self.view_is c.args.number c.position_of-position.result c.position_of-position.ensures s.index s.offline s.domains.items s.up.items kept s.draining c.mark-2.new.set (is_draining c.args.mode) kept.states.draining drains)
    (marked s.list.items bits c.args.self.now c.self.view_is c.args.number c.position_of-position.result c.position_of-position.ensures s.index s.offline s.domains.items s.up.items kept s.down c.mark-3.new.set c.args.is_down kept.states.down c.mark-3.ensures)
    ∙ ap (λ (xs : List NodeState). with_state xs c.args.number c.args.mode c.args.is_down) c.self.view_is

pub index_mut-requires : goal.index_mut-requires
index_mut-requires c = let long = c.self.invariant.flagged.long in omega (arith, long, c.from.ensures, c.self.inside.up.ok.0)
