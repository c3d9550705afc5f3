use Rattle.std.proofs.Common.{[], lit<, lit≤}
use Rattle.lrc_script.proofs.NumbersLemmas.{no_one, no_first, no_next}
use Rattle.lrc_script.proofs.front.pair_behind.Goals as goal

pub returns-in-None-clause-none : goal.returns-in-None-clause-none
returns-in-None-clause-none c = no_first c.args.text.now c.args.word.now 4 4096 (lit< tt) (lit≤ tt) 16 [] c.in-None.ensures.none

pub returns-in-None-number_in_front-clause-none : goal.returns-in-None-number_in_front-clause-none
returns-in-None-number_in_front-clause-none c =
    let stripe = c.in-Some.ensures.number in
    let none = no_one c.in-Some.rest.now [] 2 16 (lit< tt) (lit≤ tt) c.in-None-number_in_front.ensures.none in
    no_next c.args.text.now c.args.word.now c.in-Some.rest.now c.in-Some.stripe 4096 16 [] stripe.0 (lit≤ tt) stripe.1 none
