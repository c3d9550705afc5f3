use Rattle.std.proofs.Common.{length, ap, arith}
use Rattle.lrc_coding.proofs.NumberLemmas.{digits_few, few_fragments}
use Rattle.lrc_coding.proofs.recipes.parse_fragment.Goals as goal

pub returns-in_default-clause-none : goal.returns-in_default-clause-none
returns-in_default-clause-none c = λ f within same.
    let few = digits_few f (omega (arith, within, few_fragments c.args.code)) in
    absurd (omega (arith, c.in_default.len_below, few.0, ap length same))

pub returns-in_default-2-clause-none : goal.returns-in_default-2-clause-none
returns-in_default-2-clause-none c = λ f within same.
    let few = digits_few f (omega (arith, within, few_fragments c.args.code)) in
    absurd (omega (arith, c.in_default.len_at_least, few.1, ap length same))
