use Rattle.std.proofs.Common.{◌<◌, ◌≤◌, Bool, not, ◌&&◌, length, arith, ap, ◌∙◌}
use Rattle.lrc_code.specs.declared.numbers.StripeNo.{StripeNo}
use Rattle.lrc_code.specs.Numbers.{same_stripe}
use Rattle.lrc_ranks.proofs.QueueLemmas.{unlisted, set-at}
use Rattle.lrc_ranks.proofs.by_rank.ByRank.remove.Goals as goal

pub returns-in-Some : goal.returns-in-Some
returns-in-Some c =
    let sets = c.self.inside.sets in
    let rank = c.in-Some.rank in
    let few : rank ≤ 4 = rw c.in-Some.is at c.requires.few in
    let within : rank < length sets = let five = c.self.invariant in omega (arith, few, five) in
    let same = set-at sets rank c.index-self-rank.result c.self.invariant few in
    let new = c.remove.ensures ∙ ap (λ (f : StripeNo → Bool). λ (s : StripeNo). not (same_stripe c.args.stripe s) && f s) same in
    let shown = rw (c.in-Some.is, ← c.self.view_is) at c.requires.shown in
    rw (← c.self.view_is) (unlisted sets rank c.args.stripe _ within new shown)
