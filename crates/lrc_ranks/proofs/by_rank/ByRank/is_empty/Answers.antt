use Rattle.std.proofs.Common.{◌≡◌, ◌≤◌, Bool, false, arith, ap, sym, ◌∙◌}
use Rattle.lrc_code.specs.declared.numbers.StripeNo.{StripeNo}
use Rattle.lrc_ranks.specs.Sets.{at_rank}
use Rattle.lrc_ranks.proofs.QueueLemmas.{set-at, rank-next, rank-all}
use Rattle.lrc_ranks.proofs.by_rank.ByRank.is_empty.Goals as goal

pub loop-rank-init : goal.loop-rank-init
loop-rank-init c = λ j below s. absurd (omega (arith, below))

pub returns-then-not-is_empty-clause-some : goal.returns-then-not-is_empty-clause-some
returns-then-not-is_empty-clause-some c =
    let few : c.loop-rank.rank ≤ 4 = let low = c.loop-rank-test.true in omega (arith, low) in
    let same = set-at c.self.inside.sets c.loop-rank.rank c.index-self-rank.result c.self.invariant few in
    rw (← c.self.view_is) (λ _.
    let found = c.is_empty.ensures.some c.if-not-is_empty.true in
    (c.loop-rank.rank, found.0, sym (ap (λ (f : StripeNo → Bool). f found.0) same) ∙ found.1))

pub loop-rank-preserved : goal.loop-rank-preserved
loop-rank-preserved c =
    let few : c.loop-rank.rank ≤ 4 = let low = c.loop-rank-test.true in omega (arith, low) in
    let same = set-at c.self.inside.sets c.loop-rank.rank c.index-self-rank.result c.self.invariant few in
    rank-next (λ j. (s : StripeNo) → at_rank c.self.inside.sets j s ≡ false) c.loop-rank.rank c.loop-rank.invariant
    (λ s. sym (ap (λ (f : StripeNo → Bool). f s) same) ∙ c.is_empty.ensures.none c.if-not-is_empty.false s)

pub returns-clause-none : goal.returns-clause-none
returns-clause-none c = rw (← c.self.view_is) (λ _ k s.
    rank-all c.self.inside.sets s c.loop-rank.rank c.self.invariant c.loop-rank-test.false (λ j below. c.loop-rank.invariant j below s) k)
