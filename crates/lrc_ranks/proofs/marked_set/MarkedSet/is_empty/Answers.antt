use Rattle.std.proofs.Common.{◌≡◌, true, false, sym, ◌∙◌}
use Rattle.lrc_ranks.proofs.MarkedLemmas.{unmarked-none, marked-some}
use Rattle.lrc_ranks.proofs.marked_set.MarkedSet.is_empty.Goals as goal

pub returns-clause-none : goal.returns-clause-none
returns-clause-none c = rw (← c.self.view_is) (λ yes. unmarked-none c.self.inside.set c.self.inside.marks c.self.invariant (c.is_empty.ensures.0 yes))

pub returns-clause-some : goal.returns-clause-some
returns-clause-some c = rw (← c.self.view_is) (λ no. marked-some c.self.inside.set c.self.inside.marks c.self.invariant
    (λ none. let clash : true ≡ false = sym (c.is_empty.ensures.1 none) ∙ no in cc))
