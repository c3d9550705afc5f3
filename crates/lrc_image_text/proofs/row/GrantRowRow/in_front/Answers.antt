use Rattle.std.proofs.Common.{arith, codes, map, decimal, ◌∙◌, sym, ap, length}
use Rattle.lrc_image_text.specs.Fronts.{words_on}
use Rattle.lrc_image_text.proofs.RowLemmas.{behind_words, words_space, some_words}
use Rattle.lrc_image_text.proofs.row.GrantRowRow.in_front.Goals as goal

pub returns-in-None-words_to_end-clause-none : goal.returns-in-None-words_to_end-clause-none
returns-in-None-words_to_end-clause-none c = λ row rest readable is.
    let low = c.in-Some.stripe.in_range in
    let low' = row.stripe.in_range in
    let space = words_space (map decimal row.granted) rest (some_words decimal row.granted 16 readable.0 (omega arith)) in
    c.in-None-words_to_end.ensures.none row.granted rest (readable.0 ∙ sym (ap length c.as_mut_slice.ensures.value)) readable.1
    (behind_words c.args.text.now (codes "granted ") c.in-Some.stripe.value row.stripe.value c.in-Some.rest.now (words_on (map decimal row.granted) rest) space.0
    (omega (arith, low)) (omega (arith, low')) c.in-Some.ensures.some space.1 is)
