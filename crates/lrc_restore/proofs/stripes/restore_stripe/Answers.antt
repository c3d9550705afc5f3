use Rattle.std.proofs.Common.{[], ◌≡◌, ◌∷◌, ◌++◌, List, Some, None, refl, sym, ap, subst, ◌∙◌}
use Rattle.lrc_topology.specs.declared.NodeInfo.{NodeInfo}
use Rattle.lrc_topology.specs.declared.seat.Held.{Held}
use Rattle.lrc_stripes.specs.Stored.{Stored}
use Rattle.lrc_rules.specs.States.{State}
use Rattle.lrc_images.specs.Rising.{stripe_first}
use Rattle.lrc_images.specs.Causes.{is_out_of_order, with_homes, homes_cause}
use Rattle.lrc_images.specs.declared.cause.Cause.TheVariants as cause
use Rattle.lrc_images.proofs.AnswerLemmas.{none-if}
use Rattle.lrc_images.proofs.SeatedRowsLemmas.{homes_in, homes-more}
use Rattle.lrc_store.specs.Stores.{IsOf}
use Rattle.lrc_restore.proofs.RefusalLemmas.{skip}
use Rattle.lrc_restore.proofs.StripeLemmas.{row-new, rows-more}
use Rattle.lrc_restore.proofs.stripes.restore_stripe.Goals as goal

pub add_stripe-requires-clause-absent : goal.add_stripe-requires-clause-absent
add_stripe-requires-clause-absent c =
    let before = c.args.before.now in
    let r = c.args.row.now in
    let order = sym c.is_out_of_order.ensures ∙ c.if-is_out_of_order.false in
    ap (λ (t : Stored). t.stripes r.stripe) c.requires.kept.1.stripes_is ∙ row-new before r order c.requires.kept.0 (homes_in before)

pub returns-in-Ok-clause-kept : goal.returns-in-Ok-clause-kept
returns-in-Ok-clause-kept c = λ i kept.
    let before = c.args.before.now in
    let r = c.args.row.now in
    let begun = subst (λ (st : State). IsOf st c.add_stripe.new.store)
    (rows-more before r (sym c.is_out_of_order.ensures ∙ c.if-is_out_of_order.false) i)
    (c.add_stripe.ensures.kept (with_homes i before (homes_in before)) kept) in
    subst (λ (hs : List Held). IsOf (with_homes i (before ++ r ∷ []) hs) c.restore_homes.new.store) (sym (homes-more before r))
    (c.in-Ok.ensures.kept (with_homes i (before ++ r ∷ []) (homes_in before)) begun)

pub returns-in-Ok-clause-lawful : goal.returns-in-Ok-clause-lawful
returns-in-Ok-clause-lawful c = λ ok i kept.
    let before = c.args.before.now in
    let r = c.args.row.now in
    let order = sym c.is_out_of_order.ensures ∙ c.if-is_out_of_order.false in
    let begun = subst (λ (st : State). IsOf st c.add_stripe.new.store) (rows-more before r order i)
    (c.add_stripe.ensures.kept (with_homes i before (homes_in before)) kept) in
    none-if (is_out_of_order stripe_first before r) cause.OutOfOrder (homes_cause c.args.store.now.topology i before r) order
    (subst (λ (ns : List NodeInfo). homes_cause ns i before r ≡ None) c.add_stripe.ensures.nodes
    (c.in-Ok.ensures.lawful refl (with_homes i (before ++ r ∷ []) (homes_in before)) begun))

pub returns-in-Err-clause-refused : goal.returns-in-Err-clause-refused
returns-in-Err-clause-refused c = λ i kept.
    let before = c.args.before.now in
    let r = c.args.row.now in
    let order = sym c.is_out_of_order.ensures ∙ c.if-is_out_of_order.false in
    let begun = subst (λ (st : State). IsOf st c.add_stripe.new.store) (rows-more before r order i)
    (c.add_stripe.ensures.kept (with_homes i before (homes_in before)) kept) in
    skip (is_out_of_order stripe_first before r) cause.OutOfOrder (homes_cause c.args.store.now.topology i before r) order
    ∙ subst (λ (ns : List NodeInfo). homes_cause ns i before r ≡ Some c.in-Err.cause) c.add_stripe.ensures.nodes
    (c.in-Err.ensures.refused (with_homes i (before ++ r ∷ []) (homes_in before)) begun)
