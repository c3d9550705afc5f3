use Rattle.std.proofs.Common.{Bool, subst}
use Rattle.lrc_code.specs.declared.numbers.StripeNo.{StripeNo}
use Rattle.lrc_ranks.specs.Sets.{FindsNext}
use Rattle.lrc_ranks.proofs.QueueLemmas.{set-at}
use Rattle.lrc_ranks.proofs.by_rank.ByRank.first_from.Goals as goal

pub returns : goal.returns
returns c =
    let same = set-at c.self.inside.sets c.args.rank c.index-self-rank.result c.self.invariant c.requires in
    rw (← c.self.view_is) (subst (λ (f : StripeNo → Bool). FindsNext f c.args.from c.first_from.result) same c.first_from.ensures)
