use Rattle.std.proofs.Common.{◌<◌, ◌≤◌, Bool, ◌||◌, length, arith, ap, ◌∙◌}
use Rattle.lrc_code.specs.declared.numbers.StripeNo.{StripeNo}
use Rattle.lrc_code.specs.Numbers.{same_stripe}
use Rattle.lrc_ranks.proofs.QueueLemmas.{enlisted, set-at}
use Rattle.lrc_ranks.proofs.by_rank.ByRank.add.Goals as goal

pub returns-in-Some : goal.returns-in-Some
returns-in-Some c =
    let sets = c.self.inside.sets in
    let rank = c.in-Some.rank in
    let few : rank ≤ 4 = rw c.in-Some.is at c.requires.few in
    let within : rank < length sets = let five = c.self.invariant in omega (arith, few, five) in
    let same = set-at sets rank c.index-self-rank.result c.self.invariant few in
    let new = c.insert.ensures ∙ ap (λ (f : StripeNo → Bool). λ (s : StripeNo). same_stripe c.args.stripe s || f s) same in
    let none = rw (← c.self.view_is) at c.requires.none in
    rw (← c.self.view_is, c.in-Some.is) (enlisted sets rank c.args.stripe _ within new none)
