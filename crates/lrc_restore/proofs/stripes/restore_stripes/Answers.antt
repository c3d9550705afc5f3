use Rattle.std.proofs.Common.{[], ◌≡◌, ◌∷◌, ◌++◌, ◌+◌, List, length, take, get_or, flat_map, Some, None, option_map, refl, sym, ap, subst, ◌∙◌, arith}
use Rattle.std.proofs.lemmas.List.{take_more, length-take-le}
use Rattle.std.proofs.lemmas.Result.{err_from_is_err_and}
use Rattle.lrc_topology.specs.declared.NodeInfo.{NodeInfo}
use Rattle.lrc_images.specs.declared.cause.Cause.{Cause}
use Rattle.lrc_images.specs.declared.cause.Cause.TheVariants as cause
use Rattle.lrc_images.specs.declared.image.StripeRow.{StripeRow}
use Rattle.lrc_images.specs.Images.{row_homes}
use Rattle.lrc_images.specs.Rising.{stripe_first}
use Rattle.lrc_images.specs.Causes.{first_answer, at_place, is_out_of_order, homes_cause, stripe_cause, with_homes}
use Rattle.lrc_images.proofs.AnswerLemmas.{if-none, none-map}
use Rattle.lrc_store.specs.Stores.{IsOf}
use Rattle.lrc_restore.specs.Stages.{stripes_from}
use Rattle.lrc_restore.proofs.WalkLemmas.{from-found, from-next, rising-next}
use Rattle.lrc_restore.proofs.stripes.restore_stripes.Goals as goal

pub returns-in_err-restore_stripe-clause-refused : goal.returns-in_err-restore_stripe-clause-refused
returns-in_err-restore_stripe-clause-refused c =
    let so_far = c.loop-i.invariant in
    let rows = c.as_slice-rows.result.now in
    let i = c.loop-i.i in
    let d = c.index-rows-i.result in
    let within = c.loop-i-test.true in
    let nodes = c.args.store.now.topology in
    let image = c.args.image.now in
    let place = stripes_from image in
    let ask = at_place place (stripe_cause nodes image) in
    let before = take i rows in
    let r = c.in_err-restore_stripe.field-0.0 in
    let here : stripe_cause nodes image before (get_or rows i d) ≡ Some r.cause = subst (λ (ns : List NodeInfo). stripe_cause ns image before (get_or rows i d) ≡ Some r.cause) so_far.nodes
    (subst (λ (row : StripeRow). stripe_cause c.loop-i.store.topology image before row ≡ Some r.cause) c.index-rows-i.is (c.in_err-restore_stripe.ensures.refused image so_far.kept)) in
    let some : ask before (get_or rows i d) ≡ Some (place + i, r.cause) =
    ap (option_map (λ (k : Cause). (place + length before, k))) here ∙ ap (λ n. Some (place + n, r.cause)) (length-take-le i rows (omega (arith, within))) in
    let same : place + i ≡ r.position = ap (λ n. n + i) (sym c.stripes_from.ensures.is) ∙ sym c.in_err-restore_stripe.ensures.position in
    let p = err_from_is_err_and c.from_residual.result c.from_residual.ensures.1 in
    rw (p.1, p.2)
    (sym (ap (first_answer ask []) c.as_slice-rows.ensures.value) ∙ from-found ask rows i d within (place + i, r.cause) some so_far.clear ∙ ap (λ n. Some (n, r.cause)) same)

pub loop-i-preserved : goal.loop-i-preserved
loop-i-preserved c =
    let so_far = c.loop-i.invariant in
    let rows = c.as_slice-rows.result.now in
    let i = c.loop-i.i in
    let d = c.index-rows-i.result in
    let r = get_or rows i d in
    let within = c.loop-i-test.true in
    let nodes = c.args.store.now.topology in
    let image = c.args.image.now in
    let place = stripes_from image in
    let none = subst (λ (ns : List NodeInfo). stripe_cause ns image (take i rows) r ≡ None) so_far.nodes
    (subst (λ (x : StripeRow). stripe_cause c.loop-i.store.topology image (take i rows) x ≡ None) c.index-rows-i.is (c.in_ok-restore_stripe.ensures.lawful refl image so_far.kept)) in
    let order = (if-none (is_out_of_order stripe_first (take i rows) r) cause.OutOfOrder (homes_cause nodes image (take i rows) r) none).0 in
    record {
      nodes = c.restore_stripe.ensures.nodes ∙ so_far.nodes;
      rising = rising-next stripe_first rows i d within so_far.rising order;
      kept = subst (λ (xs : List StripeRow). IsOf (with_homes image xs (flat_map row_homes xs)) c.restore_stripe.new.store) (sym (take_more rows i d within))
          (subst (λ (x : StripeRow). IsOf (with_homes image (take i rows ++ x ∷ []) (flat_map row_homes (take i rows ++ x ∷ []))) c.restore_stripe.new.store) c.index-rows-i.is
          (c.in_ok-restore_stripe.ensures.kept image so_far.kept));
      clear = from-next (at_place place (stripe_cause nodes image)) rows i d within
          (none-map (λ c. (place + length (take i rows), c)) (stripe_cause nodes image (take i rows) r) none) so_far.clear;
    }
