use Rattle.std.proofs.Common.{refl, ap, ◌∙◌, arith}
use Rattle.lrc_field.specs.Field.{times, inverse}
use Rattle.lrc_field.proofs.FieldLemmas.{times_inverse, inverse_zero}
use Rattle.lrc_field.proofs.field.inverse.Goals as goal

pub returns-clause-value : goal.returns-clause-value
unfolding inverse
returns-clause-value c =
    rw (c.multiply-6.ensures, c.multiply-5.ensures, c.multiply-4.ensures, c.multiply-3.ensures, c.multiply-2.ensures, c.multiply.ensures, c.multiply-p128.ensures, c.multiply-p64.ensures, c.multiply-p32.ensures, c.multiply-p16.ensures, c.multiply-p8.ensures, c.multiply-p4.ensures, c.multiply-p2.ensures) refl

pub returns-clause-product : goal.returns-clause-product
returns-clause-product c = λ some. ap (times c.args.element) (returns-clause-value c) ∙ times_inverse c.args.element (omega arith) some

pub returns-clause-none : goal.returns-clause-none
returns-clause-none c = λ none. returns-clause-value c ∙ ap inverse none ∙ inverse_zero
