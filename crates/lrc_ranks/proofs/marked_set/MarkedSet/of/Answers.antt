use Rattle.std.proofs.Common.{◌<◌, arith}
use Rattle.lrc_ranks.proofs.MarkedLemmas.{below-none, below-marked, below-skipped, below-all}
use Rattle.lrc_ranks.proofs.marked_set.MarkedSet.of.Goals.{then-word-ne0, else-word-ne0}
use Rattle.lrc_ranks.proofs.marked_set.MarkedSet.of.Goals as goal

pub loop-index-init : goal.loop-index-init
loop-index-init c = below-none c.args.set c.new-marks.result c.new-marks.ensures

pub loop-index-preserved : goal.loop-index-preserved
loop-index-preserved c =
    let marks = c.loop-index.marks in
    let index = c.loop-index.index in
    let few = c.requires.few in
    let below = c.loop-index-test.true in
    let more : index < 64 = omega (arith, few, below) in
    elim c.if-word-ne0.branch [
      | then-word-ne0 w ↦
          rw (w.marks-is, w.insert.ensures) (below-marked c.args.set marks index c.word.result c.loop-index.invariant more c.word.ensures w.if-word-ne0.true (omega arith))
      | else-word-ne0 w ↦ rw w.marks-is (below-skipped c.args.set marks index c.word.result c.loop-index.invariant more c.word.ensures w.if-word-ne0.false)
    ]

pub invariant_of-result : goal.invariant_of-result
invariant_of-result c = below-all c.args.set c.loop-index.marks c.loop-index.index
    (λ s past. c.requires.all s (let end = c.loop-index-test.false in omega (arith, past, end))) c.loop-index.invariant
