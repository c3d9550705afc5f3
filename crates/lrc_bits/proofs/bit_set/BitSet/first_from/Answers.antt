use Rattle.std.proofs.Common.{arith, get_or, ◌/◌, ◌%◌}
use Rattle.lrc_bits.proofs.FirstFlagLemmas.{off-start, off-more, found-start, found-later, found-none_from, shifted-small}
use Rattle.lrc_bits.proofs.bit_set.BitSet.first_from.Goals as goal

pub returns-then-rest-ne0 : goal.returns-then-rest-ne0
returns-then-rest-ne0 g c =
    let words = c.self.inside.words in
    found-start words c.args.from c.args.self.now c.self.view_is (omega arith) (omega arith) c.if-rest-ne0.true
    (shifted-small (get_or words (c.args.from / 64) 0) (c.args.from % 64) (omega arith))

pub loop-i-init : goal.loop-i-init
loop-i-init g c = off-start c.self.inside.words c.args.from c.if-rest-ne0.false

pub returns-then-word-ne0 : goal.returns-then-word-ne0
returns-then-word-ne0 g c =
    found-later c.self.inside.words c.args.from c.args.self.now c.self.view_is c.loop-i.i (omega arith) (omega arith)
    c.loop-i.invariant c.if-word-ne0.true (omega arith)

pub loop-i-preserved : goal.loop-i-preserved
loop-i-preserved g c = off-more c.self.inside.words c.args.from c.loop-i.i c.loop-i.invariant c.if-word-ne0.false

pub returns-after-loop-i : goal.returns-after-loop-i
returns-after-loop-i g c = found-none_from c.self.inside.words c.args.from c.args.self.now c.self.view_is
    (λ j low high. c.loop-i.invariant j low (omega arith))

pub returns-else-start : goal.returns-else-start
returns-else-start g c = found-none_from c.self.inside.words c.args.from c.args.self.now c.self.view_is (λ j low high. absurd (omega arith))
