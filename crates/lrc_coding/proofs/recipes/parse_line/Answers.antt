use Rattle.std.proofs.Common.{◌≡◌, true, false, length, sym, ◌∙◌, arith}
use Rattle.std.proofs.lemmas.Bool.{eq-eqb}
use Rattle.lrc_coding.proofs.NumberLemmas.{nothing_behind, few_fragments}
use Rattle.lrc_coding.proofs.recipes.parse_line.Goals as goal

pub returns-then-not-is_empty-clause-none : goal.returns-then-not-is_empty-clause-none
returns-then-not-is_empty-clause-none c = λ f within same.
    let read = c.in_ok-number.ensures.number in
    let end = nothing_behind c.in_ok-number.number f c.in_ok-number.rest.now (omega (arith, read.0, c.from.ensures, c.fragments.ensures.few)) (omega (arith, within, few_fragments c.args.code)) (sym read.1 ∙ same) in
    let never : false ≡ true = c.if-not-is_empty.ensures ∙ eq-eqb (length c.in_ok-number.rest.now) 0 end in
    absurd (cc)
