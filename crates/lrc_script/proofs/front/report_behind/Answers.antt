use Rattle.std.proofs.Common.{[], ◌∷◌, lit<, lit≤}
use Rattle.lrc_script.proofs.NumbersLemmas.{no_one, no_first, no_next}
use Rattle.lrc_script.proofs.front.report_behind.Goals as goal

pub returns-in-None-clause-none : goal.returns-in-None-clause-none
returns-in-None-clause-none c = no_first c.args.text.now c.args.word.now 4 4096 (lit< tt) (lit≤ tt) 16 (4294967296 ∷ []) c.in-None.ensures.none

pub returns-in-None-number_in_front-clause-none : goal.returns-in-None-number_in_front-clause-none
returns-in-None-number_in_front-clause-none c =
    let stripe = c.in-Some.ensures.number in
    let none = no_first c.in-Some.rest.now [] 2 16 (lit< tt) (lit≤ tt) 4294967296 [] c.in-None-number_in_front.ensures.none in
    no_next c.args.text.now c.args.word.now c.in-Some.rest.now c.in-Some.stripe 4096 16 (4294967296 ∷ []) stripe.0 (lit≤ tt) stripe.1 none

pub returns-in-None-number_in_front-2-clause-none : goal.returns-in-None-number_in_front-2-clause-none
returns-in-None-number_in_front-2-clause-none c =
    let stripe = c.in-Some.ensures.number in
    let found = c.in-Some-number_in_front in
    let none = no_one found.rest.now [] 10 4294967296 (lit< tt) (lit≤ tt) c.in-None-number_in_front-2.ensures.none in
    let more = no_next c.in-Some.rest.now [] found.rest.now found.fragment 16 4294967296 [] found.ensures.number.0 (lit≤ tt) found.ensures.number.1 none in
    no_next c.args.text.now c.args.word.now c.in-Some.rest.now c.in-Some.stripe 4096 16 (4294967296 ∷ []) stripe.0 (lit≤ tt) stripe.1 more
