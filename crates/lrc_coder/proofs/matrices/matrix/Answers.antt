use Rattle.std.proofs.Common.{◌/◌, ◌%◌, arith, refl, ap, ◌∙◌}
use Rattle.std.proofs.Math.ListN.{length-set}
use Rattle.lrc_code.specs.Codes.{data_count}
use Rattle.lrc_field.specs.Stripes.{generator}
use Rattle.lrc_coder.proofs.ProductLemmas.{filled, unfilled, zeros_at}
use Rattle.lrc_coder.proofs.matrices.matrix.Goals as goal

pub loop-index-init : goal.loop-index-init
loop-index-init c = record { long = refl; entries = λ i low. absurd (omega (arith, low)); rest = λ i past. zeros_at 192 i }

pub loop-index-preserved : goal.loop-index-preserved
loop-index-preserved c =
    let code = c.args.code in
    let i = c.loop-index.index in
    let all = c.loop-index.matrix in
    let is = c.loop-index.invariant in
    let y = c.coefficient.result in
    let columns = c.data_count-columns.ensures.value in
    let low = c.loop-index-test.true in
    let few = c.matrix_count-index-end.ensures.few in
    record {
      long = length-set all i y ∙ is.long;
      entries = filled (λ k. generator code (k / data_count code) (k % data_count code)) all i y (let long = is.long in omega (arith, low, few, long))
          (c.coefficient.ensures ∙ ap (λ n. generator code (i / n) (i % n)) columns) is.entries;
      rest = λ k past. unfilled all all i y (λ k after. refl) k past ∙ is.rest k (omega (arith, past));
    }
