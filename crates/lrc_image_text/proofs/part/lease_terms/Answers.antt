use Rattle.std.proofs.Common.{arith, [], ◌∷◌, ◌++◌, ◌∙◌, decimal, refl, sym}
use Rattle.lrc_image_text.specs.Lines.{seat_word}
use Rattle.lrc_image_text.proofs.WordLemmas.{same_seat}
use Rattle.lrc_image_text.proofs.RowLemmas.{behind_number}
use Rattle.lrc_image_text.proofs.part.lease_terms.Goals as goal

pub returns-in-None-seat_to-clause-none : goal.returns-in-None-seat_to-clause-none
returns-in-None-seat_to-clause-none c = λ holder target expiry rest fits few is.
    let low = c.in-Some.holder.in_range in
    let low' = holder.in_range in
    c.in-None-seat_to.ensures.none target (decimal expiry ++ 10 ∷ rest) fits
    (behind_number c.args.text.now [] c.in-Some.holder.value holder.value c.in-Some.rest.now (seat_word target ++ 32 ∷ (decimal expiry ++ 10 ∷ rest)) (omega (arith, low.1)) (omega (arith, low'.1)) c.in-Some.ensures.some is)

pub returns-in-None-number_to-clause-none : goal.returns-in-None-number_to-clause-none
returns-in-None-number_to-clause-none c = λ holder target expiry rest fits few is.
    let low = c.in-Some.holder.in_range in
    let low' = holder.in_range in
    let found = c.in-Some-seat_to.ensures.some in
    let left = behind_number c.args.text.now [] c.in-Some.holder.value holder.value c.in-Some.rest.now (seat_word target ++ 32 ∷ (decimal expiry ++ 10 ∷ rest)) (omega (arith, low.1)) (omega (arith, low'.1)) c.in-Some.ensures.some is in
    let behind = same_seat c.in-Some-seat_to.target target 32 c.in-Some-seat_to.rest.now (decimal expiry ++ 10 ∷ rest) found.0 fits refl (sym found.1 ∙ left) in
    c.in-None-number_to.ensures.none expiry rest few behind.1
