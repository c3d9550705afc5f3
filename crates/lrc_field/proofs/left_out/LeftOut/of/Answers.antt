use Rattle.std.proofs.Common.{◌≡◌, ◌+◌, ap, ◌∙◌, arith}
use Rattle.lrc_code.specs.Codes.{data_count}
use Rattle.lrc_code.specs.declared.codes.Class.TheVariants.{A, B, G}
use Rattle.lrc_code.specs.Losses.{bits_set}
use Rattle.lrc_field.specs.Weights.{lost_in, first_or}
use Rattle.lrc_field.proofs.FirstLemmas.{third_found}
use Rattle.lrc_field.proofs.left_out.LeftOut.of.Goals as goal

pub returns : goal.returns
returns c =
    let code = c.args.code in
    let m = bits_set c.args.others.bits in
    let first : data_count code + 0 ≡ data_count code = omega arith in
    let is_a = c.first_of-in_a.ensures ∙ ap (first_or (lost_in code A m)) (c.parity.ensures ∙ first) in
    let is_b = c.first_of-in_b.ensures ∙ ap (first_or (lost_in code B m)) c.parity-2.ensures in
    let is_g = c.first_of-in_g.ensures ∙ ap (first_or (lost_in code G m)) c.spare.ensures in
    record {
      in_a = is_a;
      in_b = is_b;
      third = third_found code m (bits_set c.without-2.result.bits) (bits_set c.without.result.bits) c.args.fragment.value c.first_of-in_a.result.value c.first_of-in_b.result.value c.first_of-in_g.result.value c.first_of-second_b.result.value c.first_of-third.result.value
          is_a is_b c.without-2.ensures c.without.ensures is_g c.first_of-second_b.ensures c.first_of-third.ensures;
    }
