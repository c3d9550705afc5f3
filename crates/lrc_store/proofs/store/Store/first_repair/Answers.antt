use Rattle.std.proofs.Common.{ap, sym, option_map, is_some, Option, Some, ◌∙◌}
use Rattle.lrc_code.specs.declared.numbers.Fragment.{Fragment}
use Rattle.lrc_terms.specs.Stripes.{StripeFragment}
use Rattle.lrc_store.specs.declared.repair.Repair.{Repair}
use Rattle.lrc_store.proofs.NextRepairLemmas.{not-waiting, none-left, grantable-past, first-grantable}
use Rattle.lrc_store.proofs.LeftLemmas.{left-less}
use Rattle.lrc_store.proofs.store.Store.first_repair.Goals as goal

pub loop-fragment-init : goal.loop-fragment-init
loop-fragment-init c = λ st kept g out.
    sym (not-waiting c.args.self.now.topology st c.args.stripe g (sym (c.waiting-waiting.ensures st g kept) ∙ out))

pub loop-fragment-preserved : goal.loop-fragment-preserved
loop-fragment-preserved c = λ st kept.
    grantable-past c.args.self.now.topology st c.args.stripe c.loop-fragment.left.bits (c.loop-fragment.invariant st kept) c.without-left.result.bits
    c.in-Some.fragment c.without-left.ensures
    (sym (c.waiting_repair.ensures.grantable st kept) ∙ ap (λ (o : Option Repair). is_some o) c.in_default-waiting_repair.is)

pub loop-fragment-smaller : goal.loop-fragment-smaller
loop-fragment-smaller c = left-less c.loop-fragment.left.bits c.without-left.result.bits c.in-Some.fragment c.without-left.ensures c.in-Some.ensures.first.0

pub returns-clause-first : goal.returns-clause-first
returns-clause-first c = λ st kept.
    sym (ap (option_map (λ (f : Fragment). (c.args.stripe, f)))
    (none-left c.args.self.now.topology st c.args.stripe c.loop-fragment.left.bits (c.loop-fragment.invariant st kept) c.in_default.ensures.none))

pub returns-in-Some-waiting_repair-clause-first : goal.returns-in-Some-waiting_repair-clause-first
returns-in-Some-waiting_repair-clause-first c = λ st kept.
    ap (λ (p : StripeFragment). Some p) c.in-Some-waiting_repair.ensures.own
    ∙ sym (ap (option_map (λ (f : Fragment). (c.args.stripe, f)))
    (first-grantable c.args.self.now.topology st c.args.stripe c.loop-fragment.left.bits (c.loop-fragment.invariant st kept) c.in-Some.fragment
    c.in-Some.ensures.first.1
    (sym (c.waiting_repair.ensures.grantable st kept) ∙ ap (λ (o : Option Repair). is_some o) c.in-Some-waiting_repair.is)))
