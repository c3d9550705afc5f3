use Rattle.std.proofs.Common.{rules, ◌≡◌, true, false, ◌+◌, drop, sym, ap, ◌∙◌}
use Rattle.std.specs.Option.{option_or, is_some}
use Rattle.std.proofs.lemmas.List.{drop_all}
use Rattle.lrc_script.specs.Scripts.{form_cause, words_cause}
use Rattle.lrc_script.specs.Cuts.{words_behind}
use Rattle.lrc_script.proofs.ScriptLemmas.{words_of-cut}
use Rattle.lrc_script.proofs.TableLemmas.{left_cause, left_cause-start, left_cause-next, left_cause-many, left_cause-end, some_cause}
use Rattle.lrc_script.proofs.cause.find_cause.Goals as goal

pub returns-in_default : goal.returns-in_default
returns-in_default c =
    ap words_cause (words_of-cut c.args.line.now c.cut_word.result.0.now c.cut_word.result.1 c.cut_word.ensures)
    ∙ ap (form_cause (words_behind c.cut_word.result.1)) c.in_default.ensures.none

pub loop-bound-init : goal.loop-bound-init
loop-bound-init c = left_cause-start c.args.line.now c.cut_word.result.0.now c.cut_word.result.1 c.in-Some.bounds.now c.cut_word.ensures c.in-Some.ensures.some

pub loop-bound-preserved : goal.loop-bound-preserved
loop-bound-preserved c =
    let bounds = c.in-Some.bounds.now in
    let i = c.loop-bound.bound-index in
    let cause = c.loop-bound.cause in
    let cut = c.cut_word-in-loop-bound in
    c.loop-bound.invariant
    ∙ ap (λ rest. left_cause cause (words_behind rest) (drop i bounds)) c.in-Some-rest.is
    ∙ left_cause-next cause c.in-Some-rest.numbers.now cut.result.0.now cut.result.1 bounds i 0 cut.ensures c.loop-bound-test.true
    ∙ ap (λ o. left_cause o (words_behind cut.result.1) (drop (i + 1) bounds)) (sym (c.or-cause.ensures ∙ ap (option_or cause) c.number_cause.ensures))

pub returns-then-is_some : goal.returns-then-is_some
returns-then-is_some c =
    let some : is_some c.loop-bound.rest ≡ true = search rules in
    c.loop-bound.invariant ∙ ap (left_cause c.loop-bound.cause (words_behind c.loop-bound.rest)) (drop_all c.loop-bound.bound-index c.in-Some.bounds.now c.loop-bound-test.false)
    ∙ left_cause-many c.loop-bound.cause c.loop-bound.rest some

pub unwrap-requires : goal.unwrap-requires
unwrap-requires c =
    let none : is_some c.loop-bound.rest ≡ false = search rules in
    let is = c.loop-bound.invariant ∙ ap (left_cause c.loop-bound.cause (words_behind c.loop-bound.rest)) (drop_all c.loop-bound.bound-index c.in-Some.bounds.now c.loop-bound-test.false)
    ∙ left_cause-end c.loop-bound.cause c.loop-bound.rest none in
    some_cause c.args.line.now c.loop-bound.cause c.requires is
