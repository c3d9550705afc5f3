use Rattle.std.proofs.Common.{◌≡◌, length, subst, ap, sym, ◌∙◌, inl, inr, arith}
use Rattle.std.specs.List.{range_with_len}
use Rattle.lrc_field.specs.Stripes.{sum_of}
use Rattle.std.proofs.lemmas.List.{length-map}
use Rattle.lrc_code.specs.Codes.{fragment_count}
use Rattle.lrc_coder.specs.Buffers.{read, bytes_at, each_of, IsSum}
use Rattle.lrc_coder.proofs.StripeLemmas.{sum_of-read, numbers_range}
use Rattle.lrc_coder.proofs.CopyLemmas.{copied_sum, copy_reads}
use Rattle.lrc_coder.proofs.coding.rebuild.Goals as goal

pub returns-clause-rebuilt : goal.returns-clause-rebuilt
returns-clause-rebuilt c =
    let coefficients = c.args.recipe.now.coefficients in
    let fragments = c.args.fragments.now in
    let w = each_of coefficients in
    let e = c.if-fragments.false in
    let k = c.fragments.ensures.value in
    let count : length fragments ≡ fragment_count c.args.code = omega (arith, e, k) in
    let end = c.loop-number-test.false in
    let last = c.fragments-number-end.ensures.value in
    let sum = subst (λ n. IsSum coefficients (read fragments) n c.args.rebuilt.now c.put_sum.new.sum) count c.put_sum.ensures in
    record {
      own = c.in_default.ensures.none;
      counted = length-map fragments (λ b. b.now) ∙ count;
      lengths = λ f low. c.loop-number.invariant f (omega (arith, low, end, last));
      sum = sum;
      exact = λ f i v gives stripe same low. elim gives [
        | inl recipe ↦
            sum.bytes i low
            ∙ sum_of-read w (bytes_at (read fragments) i) v same (range_with_len 0 (fragment_count c.args.code))
            ∙ ap (sum_of w v) (sym (numbers_range c.args.code))
            ∙ sym (recipe.1.exact v stripe)
        | inr copy ↦ sum.bytes i low ∙ (copied_sum c.args.code coefficients (bytes_at (read fragments) i) f copy.0 copy.1 ∙ same f (copy_reads c.args.code coefficients f copy.0 copy.1))
      ];
      copied = λ f i within copy low. sum.bytes i low ∙ copied_sum c.args.code coefficients (bytes_at (read fragments) i) f within copy;
    }
