use Rattle.std.proofs.Common.{get_or, bit_xor, arith, ◌∙◌, refl}
use Rattle.std.proofs.Math.ListN.{length-set}
use Rattle.lrc_field.specs.Field.{times}
use Rattle.lrc_coder.proofs.ProductLemmas.{filled, unfilled}
use Rattle.lrc_coder.proofs.products.add_by_table.Goals as goal

pub loop-i-preserved : goal.loop-i-preserved
loop-i-preserved c =
    let i = c.loop-i.i in
    let sum = c.loop-i.sum in
    let is = c.loop-i.invariant in
    let y = bit_xor (get_or sum i 0) (get_or c.products-products.result (get_or c.args.source.now i 0) 0) in
    let old = c.args.sum.now in
    record {
      long = length-set sum i y ∙ is.long;
      done = filled (λ k. bit_xor (get_or old k 0) (times c.args.coefficient (get_or c.args.source.now k 0))) sum i y (let long = is.long in let low = c.loop-i-test.true in omega (arith, low, long))
          (rw (is.rest i (omega arith), c.products-products.ensures (get_or c.args.source.now i 0) (omega (arith, (c.type_inv.source i).fits))) refl) is.done;
      rest = unfilled sum old i y is.rest;
    }

pub returns : goal.returns
returns c = let e = c.loop-i.auto.i-end in let past = c.loop-i-test.false in record {
  long = c.loop-i.invariant.long;
  bytes = λ k low. c.loop-i.invariant.done k (let long = c.loop-i.invariant.long in omega (arith, e, past, low, long));
}
