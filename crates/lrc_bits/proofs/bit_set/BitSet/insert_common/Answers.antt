use Rattle.std.proofs.Common.{arith, refl, ap, length}
use Rattle.lrc_bits.proofs.FlagLemmas.{length-flags}
use Rattle.lrc_bits.proofs.UnionLemmas.{flags-common}
use Rattle.lrc_bits.proofs.bit_set.BitSet.insert_common.Goals as goal

pub returns-clause-same : goal.returns-clause-same
returns-clause-same g c =
    let new = length-flags c.loop-i.self-inside.words in
    let old = length-flags c.self.inside.words in
    let view = ap length c.self.view_is in
    omega (arith, new, old, view, c.loop-i.invariant.long)

pub returns-clause-both : goal.returns-clause-both
returns-clause-both g c =
    flags-common c.loop-i.self-inside.words c.self.inside.words c.one.inside.words c.other.inside.words _ c.args.self.now c.args.one.now c.args.other.now refl
    c.self.view_is c.one.view_is c.other.view_is c.loop-i.invariant.long (omega arith)
    (λ j below. c.loop-i.invariant.done j (omega arith))
