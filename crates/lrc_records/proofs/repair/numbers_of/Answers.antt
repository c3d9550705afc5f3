use Rattle.std.proofs.Common.{arith}
use Rattle.lrc_records.proofs.FilledLemmas.{filled}
use Rattle.lrc_records.proofs.repair.numbers_of.Goals as goal

pub returns : goal.returns
returns c = filled (λ f. f.value) c.args.fragments.now c.loop-i.numbers 0 6 c.loop-i.i (omega (arith, c.loop-i-test.false, c.loop-i.auto.i-end)) c.loop-i.invariant.written c.loop-i.invariant.rest
