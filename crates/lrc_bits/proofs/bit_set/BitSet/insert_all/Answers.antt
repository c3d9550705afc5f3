use Rattle.std.proofs.Common.{false, ◌||◌, get_or, ap, ◌∙◌}
use Rattle.lrc_bits.proofs.UnionLemmas.{and-same}
use Rattle.lrc_bits.proofs.bit_set.BitSet.insert_all.Goals as goal

pub returns-clause-either : goal.returns-clause-either
returns-clause-either g c = λ k. c.insert_common.ensures.both k ∙ ap (λ b. get_or c.args.self.now k false || b) (and-same (get_or c.args.other.now k false))
