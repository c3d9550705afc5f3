use Rattle.std.proofs.Common.{arith, ◌-◌, length, take, drop, refl, ap, ◌∙◌, length-drop}
use Rattle.std.proofs.lemmas.List.{take_all}
use Rattle.std.proofs.lemmas.Result.{err_from_is_err_and}
use Rattle.lrc_outputs.specs.Starts.{NotGoing}
use Rattle.lrc_outputs.proofs.SequelLemmas.{told_long, image_refused, bundle_refused, row_refused, good_sequel}
use Rattle.lrc_outputs.proofs.begin.begin.Goals as goal

pub returns-then-sequel-gt-SEQUEL_LIMIT-clause-refused : goal.returns-then-sequel-gt-SEQUEL_LIMIT-clause-refused
returns-then-sequel-gt-SEQUEL_LIMIT-clause-refused c = told_long NotGoing c.args.sequel.now _ _ c.if-sequel-gt-SEQUEL_LIMIT.true (refl, refl)

pub returns-in_err-image-clause-refused : goal.returns-in_err-image-clause-refused
returns-in_err-image-clause-refused c =
    let sequel = c.args.sequel.now in
    let p = err_from_is_err_and c.from_residual.result c.from_residual.ensures.1 in
    rw (p.1, p.2)
    (image_refused sequel _ _ _ c.if-sequel-gt-SEQUEL_LIMIT.false (ap (λ n. take n sequel) c.image_size-size.ensures) refl refl c.in_err-image.field-0.0 c.in_err-image.ensures.refused)

pub returns-in_err-accepted-clause-refused : goal.returns-in_err-accepted-clause-refused
returns-in_err-accepted-clause-refused c =
    let sequel = c.args.sequel.now in
    let size = c.image_size-size.result in
    let rest = take_all (length sequel - size) (drop size sequel) (omega (arith, length-drop size sequel)) in
    let p = err_from_is_err_and c.from_residual-in_err-accepted.result c.from_residual-in_err-accepted.ensures.1 in
    rw (p.1, p.2)
    (bundle_refused sequel _ _ c.count_lines.result c.if-sequel-gt-SEQUEL_LIMIT.false (ap (λ n. take n sequel) c.image_size-size.ensures) (rest ∙ ap (λ n. drop n sequel) c.image_size-size.ensures)
    c.count_lines.ensures c.in_ok-image.image c.in_ok-image.ensures.read c.in_err-accepted.field-0.0 c.in_err-accepted.ensures.refused)

pub returns-in_err-book-clause-refused : goal.returns-in_err-book-clause-refused
returns-in_err-book-clause-refused c =
    let sequel = c.args.sequel.now in
    let size = c.image_size-size.result in
    let rest = take_all (length sequel - size) (drop size sequel) (omega (arith, length-drop size sequel)) in
    let accepted = c.in_ok-accepted in
    let p = err_from_is_err_and c.from_residual-in_err-book.result c.from_residual-in_err-book.ensures.1 in
    rw (p.1, p.2)
    (row_refused sequel _ _ c.count_lines.result c.if-sequel-gt-SEQUEL_LIMIT.false (ap (λ n. take n sequel) c.image_size-size.ensures) (rest ∙ ap (λ n. drop n sequel) c.image_size-size.ensures)
    c.count_lines.ensures c.in_ok-image.image c.in_ok-image.ensures.read accepted.accepted.topology accepted.accepted.scripts.items accepted.ensures.accepted c.in_err-book.field-0.0
    c.in_err-book.ensures.refused)

pub returns-clause-begun : goal.returns-clause-begun
returns-clause-begun c =
    let sequel = c.args.sequel.now in
    let size = c.image_size-size.result in
    let rest = take_all (length sequel - size) (drop size sequel) (omega (arith, length-drop size sequel)) in
    let accepted = c.in_ok-accepted in
    good_sequel sequel _ _ c.count_lines.result c.if-sequel-gt-SEQUEL_LIMIT.false (ap (λ n. take n sequel) c.image_size-size.ensures) (rest ∙ ap (λ n. drop n sequel) c.image_size-size.ensures)
    c.count_lines.ensures c.in_ok-image.image c.in_ok-image.ensures.read accepted.accepted.topology accepted.accepted.scripts.items accepted.ensures.accepted c.in_ok-book.book.value c.in_ok-book.ensures.begun
