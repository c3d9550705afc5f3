use Rattle.std.proofs.lemmas.Bool.{not-true, not-false}
use Rattle.lrc_rows.proofs.ShortLemmas.{with_work-at, idle-at}
use Rattle.lrc_rows.proofs.rows.Rows.has_work.Goals as goal

pub returns-clause-none : goal.returns-clause-none
returns-clause-none c =
    let t = c.self.inside in
    rw (← c.self.view_is) (λ no s. idle-at t.list.items t.upgrading t.needs.items t.there t.work t.planes c.self.invariant s (λ k below. c.is_empty.ensures.none (not-false c.is_empty.result no) k s))

pub returns-clause-some : goal.returns-clause-some
returns-clause-some c =
    let t = c.self.inside in
    rw (← c.self.view_is) (λ yes.
    let found = c.is_empty.ensures.some (not-true c.is_empty.result yes) in
    (found.1, with_work-at t.list.items t.upgrading t.needs.items t.there t.work t.planes c.self.invariant found.1 found.0 found.2))
