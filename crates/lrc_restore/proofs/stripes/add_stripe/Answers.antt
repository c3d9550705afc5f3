use Rattle.std.proofs.Common.{sym, subst}
use Rattle.lrc_code.specs.declared.codes.Code.{Code}
use Rattle.lrc_code.specs.declared.codes.Code.TheVariants.{Wide, Narrow}
use Rattle.lrc_rules.specs.Steps.{with_stripe}
use Rattle.lrc_store.specs.Stores.{IsOf}
use Rattle.lrc_restore.proofs.StripeLemmas.{stripe-kept}
use Rattle.lrc_restore.proofs.stripes.add_stripe.Goals as goal

pub returns-in-Wide-clause-kept : goal.returns-in-Wide-clause-kept
returns-in-Wide-clause-kept c = λ st kept.
    let k = c.args.store.now in
    let s = c.args.stripe in
    subst (λ (code : Code). IsOf (with_stripe st code s) (record k { stripes = c.add.new.self })) (sym c.in-Wide.is)
    (stripe-kept st k kept Wide s c.requires.absent c.add.new.self c.add.ensures)

pub returns-in-Narrow-clause-kept : goal.returns-in-Narrow-clause-kept
returns-in-Narrow-clause-kept c = λ st kept.
    let k = c.args.store.now in
    let s = c.args.stripe in
    subst (λ (code : Code). IsOf (with_stripe st code s) (record k { stripes = c.add_narrow.new.self })) (sym c.in-Narrow.is)
    (stripe-kept st k kept Narrow s c.requires.absent c.add_narrow.new.self c.add_narrow.ensures)
