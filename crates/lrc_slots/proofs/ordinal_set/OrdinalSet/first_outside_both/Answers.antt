use Rattle.std.proofs.Common.{arith, ◌/◌}
use Rattle.lrc_slots.proofs.OrdinalWordLemmas.{first-left}
use Rattle.lrc_slots.proofs.ordinal_set.OrdinalSet.first_outside_both.Goals as goal

pub returns-in-Some-first_of_word_outside_both : goal.returns-in-Some-first_of_word_outside_both
returns-in-Some-first_of_word_outside_both c =
    let found = c.in-Some-first_of_word_outside_both.ensures in
    let word = c.in-Some.ensures.first in
    rw (← c.self.view_is) (first-left c.self.inside.ordinals c.args.mask.now c.args.other.now c.in-Some.word found
    (λ r below. c.loop-word.invariant.barred r (word.first (r / 64) (omega arith) below)))
