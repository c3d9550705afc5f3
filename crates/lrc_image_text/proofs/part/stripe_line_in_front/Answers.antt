use Rattle.std.proofs.Common.{arith, codes, map, take, ◌∙◌, ◌∷◌, ◌++◌, decimal, refl, ap}
use Rattle.std.proofs.lemmas.List.Elements.{All-take}
use Rattle.lrc_code.specs.Codes.{fragment_count}
use Rattle.lrc_image_text.specs.Lines.{home_word, IsHome, code_word}
use Rattle.lrc_image_text.specs.Fronts.{words_on}
use Rattle.lrc_image_text.proofs.RowLemmas.{behind_words, words_space, some_words, coded, sized, stripe_on}
use Rattle.lrc_image_text.proofs.part.stripe_line_in_front.Goals as goal

pub returns-in-None-words_to_end-clause-none : goal.returns-in-None-words_to_end-clause-none
returns-in-None-words_to_end-clause-none c = λ row rest same stripe is.
    let low = c.in-Some.stripe.in_range in
    let low' = row.stripe.in_range in
    let homes = take (fragment_count c.args.code) row.homes in
    let size = coded c.args.code row.homes stripe.all in
    let space = words_space (map home_word homes) rest (some_words home_word homes (fragment_count c.args.code) size.0 size.1) in
    let found = c.in-Some.ensures.some ∙ ap (λ w. w ++ (decimal c.in-Some.stripe.value ++ 32 ∷ c.in-Some.rest.now)) c.code_word.ensures in
    c.in-None-words_to_end.ensures.none homes rest (size.0 ∙ sized (fragment_count c.args.code) c.from.result _ refl (c.from.ensures ∙ c.fragments.ensures.value) (omega (arith, c.fragments.ensures.few, c.fragments.ensures.value))) (All-take IsHome (fragment_count c.args.code) row.homes stripe.homes)
    (behind_words c.args.text.now (code_word c.args.code ++ codes " ") c.in-Some.stripe.value row.stripe.value c.in-Some.rest.now (words_on (map home_word homes) rest) space.0
    (omega (arith, low)) (omega (arith, low')) found space.1 (is ∙ stripe_on row c.args.code same rest))
