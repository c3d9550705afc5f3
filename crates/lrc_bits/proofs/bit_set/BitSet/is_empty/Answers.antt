use Rattle.std.proofs.Common.{◌≡◌, arith, eqb-true, eq-eqb, get_or, ◌<◌, ◌^◌}
use Rattle.lrc_bits.proofs.FirstFlagLemmas.{up_to}
use Rattle.lrc_bits.proofs.UnionLemmas.{or-zero, or-both_zero, or-small, flags-empty, empty-flags}
use Rattle.lrc_bits.proofs.bit_set.BitSet.is_empty.Goals as goal

pub loop-i-preserved : goal.loop-i-preserved
loop-i-preserved g c =
    let words = c.self.inside.words in
    let i = c.loop-i.i in
    let word : get_or words i 0 < 2 ^ 64 = omega arith in
    record {
      none = λ zero. let both = or-zero c.loop-i.all (get_or words i 0) c.loop-i.invariant.small word zero in
          up_to (λ j. get_or words j 0 ≡ 0) i (c.loop-i.invariant.none both.0) both.1;
      zero = λ all. or-both_zero c.loop-i.all (get_or words i 0)
          (c.loop-i.invariant.zero (λ j below. all j (omega (arith, below)))) (all i (omega arith));
      fits = up_to (λ j. get_or words j 0 < 2 ^ 64) i c.loop-i.invariant.fits word;
      small = or-small c.loop-i.all (get_or words i 0) c.loop-i.invariant.small word;
    }

pub returns : goal.returns
returns g c =
    let words = c.self.inside.words in (
      λ yes. flags-empty words c.args.self.now c.self.view_is (λ j below. c.loop-i.invariant.none (eqb-true _ 0 yes) j (omega arith)),
      λ none. eq-eqb _ 0 (c.loop-i.invariant.zero
          (λ j below. empty-flags words c.args.self.now c.self.view_is none j (c.loop-i.invariant.fits j below))),
    )
