use Rattle.std.proofs.Common.{◌≡◌, ◌+◌, ◌&&◌, not, nat_eq, nat_lt, nat_le, sym, ap, ◌∙◌}
use Rattle.std.proofs.lemmas.Bool.{eq-eqb, ne_eqb}
use Rattle.lrc_rules.specs.States.{has_stripe}
use Rattle.lrc_rules.specs.Leases.{grants, term}
use Rattle.lrc_images.specs.declared.cause.Cause.TheVariants as cause
use Rattle.lrc_images.specs.Images.{earlier, image_state}
use Rattle.lrc_images.specs.Rising.{lease_first}
use Rattle.lrc_images.specs.Causes.{is_out_of_order, with_leases}
use Rattle.lrc_restore.proofs.RefusalLemmas.{skip, stop}
use Rattle.lrc_restore.proofs.LeaseLemmas.{there-is, running-is}
use Rattle.lrc_restore.proofs.leases.lease_cause.Goals as goal

pub returns-then-count-eq0 : goal.returns-then-count-eq0
returns-then-count-eq0 c = λ i kept counted.
    let row = c.args.row.now in
    let count = grants (earlier i.grants.items) row.stripe row.fragment in
    let order = sym c.is_out_of_order.ensures ∙ c.if-is_out_of_order.false in
    let there = there-is i c.args.before.now c.args.store.now kept row.stripe ∙ sym c.contains.ensures ∙ c.if-not-contains.false in
    let none : count ≡ 0 = sym (counted row.stripe row.fragment) ∙ sym c.count.ensures ∙ c.if-count-eq0.true in
    sym (skip (is_out_of_order lease_first c.args.before.now row) cause.OutOfOrder _ order
    ∙ skip (not (has_stripe (image_state i) row.stripe)) cause.UnknownStripe _ (ap not there)
    ∙ stop (nat_eq count 0) cause.NeverGranted _ (eq-eqb count 0 none))

pub returns-then-not-is_running : goal.returns-then-not-is_running
returns-then-not-is_running c = λ i kept counted.
    let row = c.args.row.now in
    let count = grants (earlier i.grants.items) row.stripe row.fragment in
    let order = sym c.is_out_of_order.ensures ∙ c.if-is_out_of_order.false in
    let there = there-is i c.args.before.now c.args.store.now kept row.stripe ∙ sym c.contains.ensures ∙ c.if-not-contains.false in
    let running = running-is i c.args.before.now c.args.store.now kept row.expiry ∙ sym c.is_running.ensures ∙ c.if-not-is_running.true in
    sym (skip (is_out_of_order lease_first c.args.before.now row) cause.OutOfOrder _ order
    ∙ skip (not (has_stripe (image_state i) row.stripe)) cause.UnknownStripe _ (ap not there)
    ∙ skip (nat_eq count 0) cause.NeverGranted _ (ne_eqb count 0 (λ none. c.if-count-eq0.false (c.count.ensures ∙ counted row.stripe row.fragment ∙ none)))
    ∙ stop (not (nat_lt i.clock row.expiry && nat_le row.expiry (i.clock + term))) cause.WrongExpiry _ (ap not running))

pub returns : goal.returns
returns c = λ i kept counted.
    let row = c.args.row.now in
    let count = grants (earlier i.grants.items) row.stripe row.fragment in
    let order = sym c.is_out_of_order.ensures ∙ c.if-is_out_of_order.false in
    let there = there-is i c.args.before.now c.args.store.now kept row.stripe ∙ sym c.contains.ensures ∙ c.if-not-contains.false in
    let running = running-is i c.args.before.now c.args.store.now kept row.expiry ∙ sym c.is_running.ensures ∙ c.if-not-is_running.false in
    c.seat_refusal.ensures (with_leases i c.args.before.now) kept
    ∙ sym (skip (is_out_of_order lease_first c.args.before.now row) cause.OutOfOrder _ order
    ∙ skip (not (has_stripe (image_state i) row.stripe)) cause.UnknownStripe _ (ap not there)
    ∙ skip (nat_eq count 0) cause.NeverGranted _ (ne_eqb count 0 (λ none. c.if-count-eq0.false (c.count.ensures ∙ counted row.stripe row.fragment ∙ none)))
    ∙ skip (not (nat_lt i.clock row.expiry && nat_le row.expiry (i.clock + term))) cause.WrongExpiry _ (ap not running))
