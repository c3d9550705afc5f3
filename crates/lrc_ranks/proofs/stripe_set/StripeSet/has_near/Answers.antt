use Rattle.std.proofs.Common.{◌<◌, arith}
use Rattle.lrc_ranks.proofs.stripe_set.StripeSet.has_near.Goals as goal

pub returns-clause-some : goal.returns-clause-some
returns-clause-some c = rw (← c.self.view_is) (λ yes.
    let found = c.has_near.ensures.some yes in
    let here = found.1 in
    let low : found.0 < 4096 = let own = c.args.stripe.in_range in omega (arith, here, own) in
    (record { value = found.0; in_range = low }, found.1, found.2))
