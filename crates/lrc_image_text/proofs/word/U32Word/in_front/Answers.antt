use Rattle.std.proofs.Common.{◌∙◌, ◌++◌, ◌∷◌, decimal, sym, ap, arith}
use Rattle.lrc_image_text.specs.Fronts.{end_byte}
use Rattle.lrc_image_text.proofs.WordLemmas.{same_number, end_other}
use Rattle.lrc_image_text.proofs.word.U32Word.in_front.Goals as goal

pub returns-in-Some-clause-only : goal.returns-in-Some-clause-only
returns-in-Some-clause-only c = λ w rest fits is.
    let found = c.in-Some.ensures.some in
    let text_is = found.1 ∙ ap (λ b. decimal c.in-Some.number ++ b ∷ c.in-Some.rest.now) c.end_byte.ensures in
    (same_number w c.in-Some.number (end_byte c.args.is_last) rest c.in-Some.rest.now (omega (arith, fits)) (omega (arith, found.0)) (end_other c.args.is_last) (sym is ∙ text_is)).1
