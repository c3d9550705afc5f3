use Rattle.std.proofs.Common.{◌≡◌, IsSome, ◌&&◌, not, Bool, List, sym, ap, subst, ◌∙◌}
use Rattle.lrc_slots.specs.Slots.{Slots, with_eligible}
use Rattle.lrc_slots.specs.Tables.{slots_of}
use Rattle.lrc_terms.specs.Modes.{is_active}
use Rattle.lrc_topology.specs.declared.NodeInfo.{NodeInfo}
use Rattle.lrc_topology.specs.Nodes.{node_at}
use Rattle.lrc_nodes.specs.States.{infos_in}
use Rattle.lrc_stripes.specs.Stored.{Stored}
use Rattle.lrc_rows.specs.NodeStates.{has_node}
use Rattle.lrc_store.proofs.NodeStateLemmas.{node-known}
use Rattle.lrc_store.proofs.store.Store.set_state.Goals.{then-is_active, else-is_active}
use Rattle.lrc_store.proofs.store.Store.set_state.Goals as goal

pub set_eligible-requires : goal.set_eligible-requires
set_eligible-requires c =
    subst (λ (nodes : List NodeInfo). IsSome (node_at nodes c.args.node)) (sym (ap (λ (t : Slots). t.nodes) c.requires.tied.1.table_is)) c.requires.known

pub set_state-requires : goal.set_state-requires
set_state-requires c =
    ap (λ (t : Stored). has_node (infos_in t.nodes) c.args.node) c.requires.tied.1.stripes_is
    ∙ node-known c.args.self.now.topology c.requires.tied.0 c.args.node c.requires.known

pub returns-clause-table : goal.returns-clause-table
returns-clause-table c =
    let down = c.args.is_down in
    let takes : c.if-is_active.is_eligible ≡ (is_active c.args.mode && not down) = elim c.if-is_active.branch [
      | then-is_active w ↦ w.is_eligible-is ∙ sym (ap (λ (b : Bool). b && not down) (sym c.is_active.ensures ∙ w.if-is_active.true))
      | else-is_active w ↦ w.is_eligible-is ∙ w.if-is_active.false ∙ sym (ap (λ (b : Bool). b && not down) (sym c.is_active.ensures ∙ w.if-is_active.false))
    ] in
    c.set_eligible.ensures ∙ ap (with_eligible (slots_of c.args.self.now.table) c.args.node) takes
