use Rattle.std.proofs.Common.{sym, ◌∙◌}
use Rattle.lrc_slots.proofs.SetLemmas.{some-listed}
use Rattle.lrc_slots.proofs.ordinal_sets.OrdinalSets.has_any.Goals as goal

pub returns-clause-some : goal.returns-clause-some
returns-clause-some c = λ any.
    rw (← c.self.view_is)
    (some-listed c.self.inside.sets.items c.self.inside.used c.self.invariant.filled c.first.result c.first.ensures (sym c.is_some.ensures ∙ any))
