use Rattle.std.proofs.Common.{IsSome, refl, sym, ap, ◌∙◌, false, true}
use Rattle.lrc_topology.specs.Nodes.{node_at}
use Rattle.lrc_topology.specs.declared.seat.Held.{Held}
use Rattle.lrc_terms.specs.Modes.{is_gone}
use Rattle.lrc_restore.proofs.SeatLemmas.{taken-cause, free-cause}
use Rattle.lrc_restore.proofs.seats.slot_refusal.Goals as goal

pub returns-then-is_taken : goal.returns-then-is_taken
returns-then-is_taken c = λ st kept.
    let k = c.args.store.now in
    let h : Held = record { stripe = c.args.stripe; fragment = c.args.fragment; seat = c.args.seat } in
    let some : IsSome (node_at k.topology c.args.seat.node) = rw c.requires.node refl in
    let present = ap is_gone (sym (c.mode.ensures st kept some)) ∙ sym c.is_gone.ensures ∙ c.if-is_gone.false in
    taken-cause k st kept h c.args.node.now c.if-seat-node.false present (sym c.is_taken.ensures.value ∙ c.if-is_taken.true)

pub returns-then-rules_out : goal.returns-then-rules_out
returns-then-rules_out c = λ st kept.
    let k = c.args.store.now in
    let h : Held = record { stripe = c.args.stripe; fragment = c.args.fragment; seat = c.args.seat } in
    let some : IsSome (node_at k.topology c.args.seat.node) = rw c.requires.node refl in
    let present = ap is_gone (sym (c.mode.ensures st kept some)) ∙ sym c.is_gone.ensures ∙ c.if-is_gone.false in
    free-cause k st kept h c.args.node.now c.if-seat-node.false present (sym c.is_taken.ensures.value ∙ c.if-is_taken.false)
    true (sym c.if-rules_out.true ∙ c.rules_out.ensures st kept)

pub returns : goal.returns
returns c = λ st kept.
    let k = c.args.store.now in
    let h : Held = record { stripe = c.args.stripe; fragment = c.args.fragment; seat = c.args.seat } in
    let some : IsSome (node_at k.topology c.args.seat.node) = rw c.requires.node refl in
    let present = ap is_gone (sym (c.mode.ensures st kept some)) ∙ sym c.is_gone.ensures ∙ c.if-is_gone.false in
    free-cause k st kept h c.args.node.now c.if-seat-node.false present (sym c.is_taken.ensures.value ∙ c.if-is_taken.false)
    false (sym c.if-rules_out.false ∙ c.rules_out.ensures st kept)
