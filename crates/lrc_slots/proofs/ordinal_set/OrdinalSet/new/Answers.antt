use Rattle.lrc_slots.proofs.OrdinalWordLemmas.{words-none}
use Rattle.lrc_slots.proofs.ordinal_set.OrdinalSet.new.Goals as goal

pub invariant_of-result : goal.invariant_of-result
invariant_of-result c = rw (c.new.ensures, c.new-2.ensures) words-none
