use Rattle.lrc_image_text.proofs.HeadLemmas.{first_bad, second_bad, third_bad}
use Rattle.lrc_image_text.proofs.read.read_head.Goals as goal

pub returns-in_default-clause-bad : goal.returns-in_default-clause-bad
returns-in_default-clause-bad c = first_bad c.args.text.now c.in_default.ensures.none

pub returns-in_default-before_in_front-clause-bad : goal.returns-in_default-before_in_front-clause-bad
returns-in_default-before_in_front-clause-bad c = second_bad c.args.text.now c.in-Some.rest.now c.in-Some.ensures.rest c.in_default-before_in_front.ensures.none

pub returns-in_default-number_behind-clause-bad : goal.returns-in_default-number_behind-clause-bad
returns-in_default-number_behind-clause-bad c =
    let before = c.in-Some-before_in_front in
    third_bad c.args.text.now c.in-Some.rest.now c.in-Some.ensures.rest before.before before.rest.now before.ensures.some.0 before.ensures.some.1 c.in_default-number_behind.ensures.none
