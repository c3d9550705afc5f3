use Rattle.std.proofs.Common.{◌<◌, length, arith, ap, ◌∙◌}
use Rattle.lrc_ranks.specs.Sets.{has}
use Rattle.lrc_ranks.proofs.StripeSetLemmas.{has-insert}
use Rattle.lrc_ranks.proofs.stripe_set.StripeSet.insert.Goals as goal

pub returns : goal.returns
returns c =
    let bits = c.self.inside.bits in
    let within : c.args.stripe.value < length bits = let low = c.args.stripe.in_range in let long = c.self.invariant in omega (arith, low, long) in
    rw (← c.self.view_is) (ap has c.insert.ensures ∙ has-insert bits c.args.stripe within)
