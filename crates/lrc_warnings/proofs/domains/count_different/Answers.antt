use Rattle.std.proofs.Common.{sym, ◌∙◌, arith}
use Rattle.lrc_warnings.proofs.DifferentLemmas.{count-again, count-last}
use Rattle.lrc_warnings.proofs.domains.count_different.Goals.{then-not-contains, else-not-contains}
use Rattle.lrc_warnings.proofs.domains.count_different.Goals as goal

pub loop-place-preserved : goal.loop-place-preserved
loop-place-preserved c = elim c.if-not-contains.branch [
  | then-not-contains w ↦
      let last = count-last c.args.numbers.now c.loop-place.place c.loop-place-test.true (sym c.contains.ensures.value ∙ w.if-not-contains.true) in
      record { counted = omega (arith, last, w.count-is, c.loop-place.invariant.counted); few = omega (arith, w.count-is, c.loop-place.invariant.few) }
  | else-not-contains w ↦
      let again = count-again c.args.numbers.now c.loop-place.place c.loop-place-test.true (sym c.contains.ensures.value ∙ w.if-not-contains.false) in
      record { counted = omega (arith, again, w.count-is, c.loop-place.invariant.counted); few = omega (arith, w.count-is, c.loop-place.invariant.few) }
]
