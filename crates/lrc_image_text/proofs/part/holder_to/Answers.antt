use Rattle.std.proofs.Common.{arith, ◌∙◌, refl, sym}
use Rattle.lrc_image_text.proofs.WordLemmas.{same_number}
use Rattle.lrc_image_text.proofs.part.holder_to.Goals as goal

pub returns-in-Some-eq0-default-clause-none : goal.returns-in-Some-eq0-default-clause-none
returns-in-Some-eq0-default-clause-none c = λ holder rest is.
    let read = c.in-Some-eq0-default in
    let found = read.ensures.some in
    let low = holder.in_range in
    let same = same_number read.field-0-0 holder.value 32 read.field-0-1.now rest (omega (arith, found.0)) (omega (arith, low.1)) refl (sym found.1 ∙ is) in
    omega (arith, same.0, read.field-0-0-test, low.0)
