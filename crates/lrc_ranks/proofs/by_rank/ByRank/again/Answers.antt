use Rattle.std.proofs.Common.{◌∙◌, arith}
use Rattle.lrc_ranks.proofs.QueueLemmas.{set-at, five-again}
use Rattle.lrc_ranks.proofs.by_rank.ByRank.again.Goals as goal

pub returns : goal.returns
returns c =
    let sets = c.self.inside.sets in
    let five = c.self.invariant in
    rw (← c.self.view_is) (five-again sets _ _ _ _ _ five
    (c.again.ensures ∙ set-at sets 0 c.index-self-0.result five (omega arith))
    (c.again-2.ensures ∙ set-at sets 1 c.index-self-1.result five (omega arith))
    (c.again-3.ensures ∙ set-at sets 2 c.index-self-2.result five (omega arith))
    (c.again-4.ensures ∙ set-at sets 3 c.index-self-3.result five (omega arith))
    (c.again-5.ensures ∙ set-at sets 4 c.index-self-4.result five (omega arith)))
