use Rattle.std.proofs.Common.{◌<◌, Bool, ◌||◌, nat_eq, length, arith, ap, ◌∙◌}
use Rattle.lrc_code.specs.declared.numbers.StripeNo.{StripeNo}
use Rattle.lrc_code.specs.Numbers.{same_stripe}
use Rattle.lrc_ranks.specs.Sets.{at_fragment}
use Rattle.lrc_ranks.proofs.FragmentLemmas.{one-changed, inserted}
use Rattle.lrc_ranks.proofs.fragment_sets.FragmentSets.insert.Goals as goal

pub returns : goal.returns
returns c =
    let sets = c.self.inside.sets in
    let stripe = c.args.stripe in
    let number = c.args.fragment.value in
    let within : number < length sets = let low = c.args.fragment.in_range in let long = c.self.invariant in omega (arith, low, long) in
    rw (← c.self.view_is) (λ f s. one-changed sets number c.index-self-fragment.result c.insert.new.self (λ t b. same_stripe stripe t || b) within
    (λ t. ap (λ (g : StripeNo → Bool). g t) c.insert.ensures) f s
    ∙ inserted (nat_eq f number) (same_stripe stripe s) (at_fragment sets f s))
