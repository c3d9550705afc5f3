use Rattle.std.proofs.Common.{◌∙◌, ◌++◌, ◌∷◌, Some, None, sym, ap}
use Rattle.lrc_image_text.specs.Lines.{seat_word}
use Rattle.lrc_image_text.specs.Fronts.{end_byte}
use Rattle.lrc_image_text.proofs.WordLemmas.{same_home, no_home-or_seat, end_other}
use Rattle.lrc_image_text.proofs.word.OptionSeatWord.in_front.Goals as goal

pub returns-in-Some-clause-only : goal.returns-in-Some-clause-only
returns-in-Some-clause-only c = λ home more fits is.
    let text_is = c.in-Some.ensures.rest ∙ ap (λ t. t ++ c.in-Some.rest.now) c.no_home.ensures in
    (same_home home None (end_byte c.args.is_last) more c.in-Some.rest.now fits tt (end_other c.args.is_last) (sym is ∙ text_is)).1

pub returns-in-Some-seat_to-clause-only : goal.returns-in-Some-seat_to-clause-only
returns-in-Some-seat_to-clause-only c = λ home more fits is.
    let found = c.in-Some-seat_to.ensures.some in
    let text_is = found.1 ∙ ap (λ b. seat_word c.in-Some-seat_to.seat ++ b ∷ c.in-Some-seat_to.rest.now) c.end_byte.ensures in
    (same_home home (Some c.in-Some-seat_to.seat) (end_byte c.args.is_last) more c.in-Some-seat_to.rest.now fits found.0 (end_other c.args.is_last) (sym is ∙ text_is)).1

pub returns-in-None-seat_to-clause-none : goal.returns-in-None-seat_to-clause-none
returns-in-None-seat_to-clause-none c home rest fits is =
    no_home-or_seat c.args.text.now (end_byte c.args.is_last)
    (λ more is'. c.in-None.ensures.none more (is' ∙ ap (λ t. t ++ more) (sym c.no_home.ensures)))
    (λ seat more fits' is'. c.in-None-seat_to.ensures.none seat more fits' (is' ∙ ap (λ b. seat_word seat ++ b ∷ more) (sym c.end_byte.ensures)))
    home rest fits is
