use Rattle.std.proofs.Common.{ℕ, []}
use Rattle.lrc_code.specs.declared.numbers.StripeNo.{StripeNo}
use Rattle.lrc_ranks.specs.Missing.{rank_with}
use Rattle.lrc_ranks.specs.Sets.{has}
use Rattle.lrc_ranks.proofs.QueueLemmas.{ranks-apart}
use Rattle.lrc_ranks.proofs.queue.Queue.renew_by.Goals as goal

pub invariant_of-self : goal.invariant_of-self
invariant_of-self c =
    let planes = c.args.planes.now in
    let rank : StripeNo → ℕ = rank_with planes.narrow planes.missing [] in
    ranks-apart c.ranks-self-inside.result (has planes.work) rank c.ranks-self-inside.ensures.ranks
