use Rattle.std.proofs.Common.{ap, ◌∙◌, Option, unwrap_or}
use Rattle.lrc_code.specs.declared.numbers.Fragment.{Fragment}
use Rattle.lrc_code.specs.Losses.{bits_set}
use Rattle.lrc_field.proofs.FirstLemmas.{first_member}
use Rattle.lrc_field.proofs.left_out.first_of.Goals as goal

pub returns : goal.returns
returns c =
    ap (λ (f : Fragment). f.value) (c.unwrap_or.ensures ∙ ap (λ (o : Option Fragment). unwrap_or o c.args.other) c.first_common.ensures)
    ∙ first_member c.args.code c.args.class (λ f. bits_set c.of_class.result.bits f.value) (bits_set c.args.lost.bits) c.args.other c.of_class.ensures
