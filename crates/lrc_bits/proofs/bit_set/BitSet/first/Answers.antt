use Rattle.std.proofs.Common.{arith}
use Rattle.lrc_bits.proofs.FirstFlagLemmas.{off-more, found-later, found-none_from}
use Rattle.lrc_bits.proofs.bit_set.BitSet.first.Goals as goal

pub returns-then-word-ne0 : goal.returns-then-word-ne0
returns-then-word-ne0 g c =
    found-later c.self.inside.words 0 c.args.self.now c.self.view_is c.loop-i.i (omega arith) (omega arith)
    c.loop-i.invariant c.if-word-ne0.true (omega arith)

pub loop-i-preserved : goal.loop-i-preserved
loop-i-preserved g c = off-more c.self.inside.words 0 c.loop-i.i c.loop-i.invariant c.if-word-ne0.false

pub returns : goal.returns
returns g c = found-none_from c.self.inside.words 0 c.args.self.now c.self.view_is
    (λ j low high. c.loop-i.invariant j low (omega arith))
