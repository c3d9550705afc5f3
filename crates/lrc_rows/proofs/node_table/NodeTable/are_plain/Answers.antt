use Rattle.std.proofs.Common.{◌≡◌, true, false, not, refl, length, get_or, inl, inr, Option, Some, is_some, sym, ap, ◌∙◌}
use Rattle.std.proofs.lemmas.Bool.{cases_lt}
use Rattle.std.proofs.lemmas.List.{get_or_default}
use Rattle.lrc_nodes.specs.declared.node_state.NodeState.{NodeState}
use Rattle.lrc_nodes.specs.States.{is_node_online, node_position}
use Rattle.lrc_nodes.proofs.StateLemmas.{no_state, state_at-past}
use Rattle.lrc_rows.specs.NodeStates.{IsPositionOf}
use Rattle.lrc_rows.proofs.NodeStateLemmas.{not-not, known-state, found-online, found-draining}
use Rattle.lrc_rows.proofs.UpgradingLemmas.{online-up}
use Rattle.lrc_rows.proofs.node_table.NodeTable.are_plain.Goals as goal

pub returns-then-are_all_online : goal.returns-then-are_all_online
returns-then-are_all_online c = λ none n known.
    let states = c.self.inside.nodes in
    let p = node_position states n in
    elim (cases_lt p (length states)) [
      | inl within ↦
          let at : IsPositionOf c.args.self.now n (Some p) = rw (← c.self.view_is) (refl, within, c.self.invariant.long) in
          let x = get_or states p no_state in
          let own : x ≡ get_or states p x = sym (get_or_default states p x no_state within) in (
            online-up c.args.self.now n (sym (found-online c.self.inside.nodes c.self.inside.stripes.items c.args.self.now c.self.view_is n p at x own) ∙ (sym (not-not (is_node_online x)) ∙ ap not (c.are_all_online.ensures.0 c.if-are_all_online.true p no_state within))),
            sym (found-draining c.self.inside.nodes c.self.inside.stripes.items c.args.self.now c.self.view_is n p at x own) ∙ c.are_none_draining.ensures.0 none p no_state within,
          )
      | inr past ↦
          let there = known-state c.self.inside.nodes c.self.inside.stripes.items c.args.self.now c.self.view_is n known in
          absurd (let clash : false ≡ true = sym (ap (λ (o : Option NodeState). is_some o) (state_at-past states n past)) ∙ there in cc)
    ]
