use Rattle.std.proofs.Common.{arith, refl, ap, length}
use Rattle.lrc_bits.proofs.FlagLemmas.{length-flags}
use Rattle.lrc_bits.proofs.UnionLemmas.{flags-difference}
use Rattle.lrc_bits.proofs.bit_set.BitSet.remove_all.Goals as goal

pub returns-clause-same : goal.returns-clause-same
returns-clause-same g c =
    let new = length-flags c.loop-i.self-inside.words in
    let old = length-flags c.self.inside.words in
    let view = ap length c.self.view_is in
    omega (arith, new, old, view, c.loop-i.invariant.long)

pub returns-clause-left : goal.returns-clause-left
returns-clause-left g c =
    flags-difference c.loop-i.self-inside.words c.self.inside.words c.other.inside.words _ c.args.self.now c.args.other.now refl
    c.self.view_is c.other.view_is c.loop-i.invariant.long (λ j below. c.loop-i.invariant.fits j (omega arith))
    (λ j below. c.loop-i.invariant.done j (omega arith))
