use Rattle.std.proofs.Common.{arith}
use Rattle.lrc_bars.proofs.NeighbourLemmas.{some-stand}
use Rattle.lrc_bars.proofs.neighbours.meet.Goals as goal

pub returns : goal.returns
returns c = λ domains number alike.
    some-stand domains number c.args.one.bits c.args.other.bits c.from_bits-met.result.bits (omega arith) c.from_bits-met.ensures alike
