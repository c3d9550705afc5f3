use Rattle.std.proofs.Common.{arith}
use Rattle.lrc_ranks.proofs.MarkedLemmas.{next-some}
use Rattle.lrc_ranks.proofs.marked_set.MarkedSet.first_from.Goals as goal

pub returns : goal.returns
returns c =
    let start = c.max-start.ensures in
    rw (← c.self.view_is) (next-some c.self.inside.set c.self.inside.marks c.args.from c.self.invariant c.in_ok-stretch.stretch c.in_ok-stretch.ensures
    c.first_from-2.result c.max-start.result (λ n low after. omega (arith, start, low, after)) (omega (arith, start)) c.first_from-2.ensures)
