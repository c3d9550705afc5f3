use Rattle.std.proofs.Common.{length, get_or, arith, ap, ◌∙◌}
use Rattle.lrc_coder.specs.Buffers.{read, each_of, bytes_at}
use Rattle.lrc_coder.proofs.SumLemmas.{sum_with, sum_without}
use Rattle.lrc_coder.proofs.sums.put_sum.Goals as goal
use Rattle.lrc_coder.proofs.sums.put_sum.Goals.{then-coefficients-number-ne0, else-coefficients-number-ne0}

pub loop-number-preserved : goal.loop-number-preserved
loop-number-preserved c =
    let n = c.loop-number.number in
    let is = c.loop-number.invariant in
    let coefficients = c.args.coefficients.now in
    let sources = c.args.sources.now in
    elim c.if-coefficients-number-ne0.branch [
      | then-coefficients-number-ne0 w ↦
          let added = w.add_product.ensures in
          record {
            long = ap (λ xs. length xs) w.sum-is ∙ added.long ∙ is.long;
            bytes = λ i low. ap (λ xs. get_or xs i 0) w.sum-is ∙ added.bytes i (let long = is.long in omega (arith, low, long))
                ∙ sum_with (each_of coefficients) sources n i (get_or c.loop-number.sum i 0) _ c.loop-number-test.true (is.bytes i low);
          }
      | else-coefficients-number-ne0 w ↦
          record {
            long = ap (λ xs. length xs) w.sum-is ∙ is.long;
            bytes = λ i low. ap (λ xs. get_or xs i 0) w.sum-is ∙ is.bytes i low ∙ sum_without (each_of coefficients) (bytes_at (read sources) i) n w.if-coefficients-number-ne0.false;
          }
    ]
