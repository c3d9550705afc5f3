use Rattle.std.proofs.Common.{◌≡◌, ◌≤◌, Bool, false, arith, ap, sym, ◌∙◌}
use Rattle.lrc_code.specs.declared.numbers.StripeNo.{StripeNo}
use Rattle.lrc_ranks.specs.Sets.{at_rank}
use Rattle.lrc_ranks.proofs.QueueLemmas.{set-at, rank-next, rank-all}
use Rattle.lrc_ranks.proofs.by_rank.ByRank.rank.Goals as goal

pub loop-rank-init : goal.loop-rank-init
loop-rank-init c = λ j below. absurd (omega (arith, below))

pub loop-rank-preserved : goal.loop-rank-preserved
loop-rank-preserved c =
    let few : c.loop-rank.rank ≤ 4 = let low = c.loop-rank-test.true in omega (arith, low) in
    let same = set-at c.self.inside.sets c.loop-rank.rank c.index-self-rank.result c.self.invariant few in
    rank-next (λ j. at_rank c.self.inside.sets j c.args.stripe ≡ false) c.loop-rank.rank c.loop-rank.invariant
    (sym (ap (λ (f : StripeNo → Bool). f c.args.stripe) same) ∙ (sym c.contains.ensures ∙ c.if-contains.false))

pub returns-clause-none : goal.returns-clause-none
returns-clause-none c = rw (← c.self.view_is) (rank-all c.self.inside.sets c.args.stripe c.loop-rank.rank c.self.invariant c.loop-rank-test.false c.loop-rank.invariant)
