use Rattle.std.proofs.Common.{◌/◌, ◌%◌, get_or, bit_xor, arith, ◌∙◌}
use Rattle.std.proofs.Math.ListN.{length-set}
use Rattle.lrc_field.specs.Field.{times}
use Rattle.lrc_coder.proofs.ProductLemmas.{filled, times_halves}
use Rattle.lrc_coder.proofs.products.products.Goals as goal

pub loop-byte-preserved : goal.loop-byte-preserved
loop-byte-preserved c =
    let b = c.loop-byte.byte in
    let all = c.loop-byte.products in
    let is = c.loop-byte.invariant in
    let digits = c.loop-digit.invariant in
    let y = bit_xor (get_or c.loop-digit.low (b % 16) 0) (get_or c.loop-digit.high (b / 16) 0) in
    let low = c.loop-byte-test.true in
    let past = c.loop-digit-test.false in
    record {
      long = length-set all b y ∙ is.long;
      done = filled (times c.args.coefficient) all b y (let long = is.long in omega (arith, low, long))
          (rw (digits.low (b % 16) (omega (arith, past)), digits.high (b / 16) (omega (arith, past, low))) (times_halves c.args.coefficient b (omega (arith, low)))) is.done;
    }
