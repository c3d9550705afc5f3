use Rattle.std.proofs.Common.{sym, ◌∙◌}
use Rattle.std.proofs.lemmas.List.{append_cancel_left}
use Rattle.lrc_image_text.proofs.WordLemmas.{none_as}
use Rattle.lrc_image_text.proofs.number.number_behind.Goals as goal

pub returns-in-Some-clause-none : goal.returns-in-Some-clause-none
returns-in-Some-clause-none c =
    none_as c.number_to.result (λ front n rest below is. front n rest below (append_cancel_left c.args.word.now c.in-Some.rest.now _ (sym c.in-Some.ensures.rest ∙ is))) c.number_to.ensures.none
