use Rattle.std.proofs.Common.{◌∙◌, sym, refl, arith}
use Rattle.lrc_image_text.proofs.WordLemmas.{same_number, seat_on}
use Rattle.lrc_image_text.proofs.word.seat_to.Goals as goal

pub returns-in-None-number_to-clause-none : goal.returns-in-None-number_to-clause-none
returns-in-None-number_to-clause-none c = λ seat rest fits is.
    let found = c.in-Some.ensures.some in
    let parts = same_number c.in-Some.node seat.node.value 58 c.in-Some.rest.now _ (omega (arith, found.0)) (omega (arith, fits.0)) refl (sym found.1 ∙ is ∙ seat_on seat c.args.end rest) in
    c.in-None-number_to.ensures.none seat.slot rest fits.1 parts.1
