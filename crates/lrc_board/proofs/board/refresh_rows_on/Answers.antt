use Rattle.std.proofs.Common.{rules, ◌≡◌, arith}
use Rattle.lrc_book.specs.Books.{state_of}
use Rattle.lrc_board.proofs.RefreshLemmas.{anew-first, anew-next, anew-all}
use Rattle.lrc_board.proofs.board.refresh_rows_on.Goals as goal

pub loop-number-init : goal.loop-number-init
loop-number-init c = anew-first (state_of c.args.book.now) c.args.node c.args.rows.now c.requires

pub loop-number-preserved : goal.loop-number-preserved
loop-number-preserved c =
    let stripe = c.unwrap-stripe.result in
    let is : stripe.value ≡ c.loop-number.number = search rules in
    anew-next (state_of c.args.book.now) c.args.node c.args.rows.now c.loop-number.number c.loop-number.rows c.refresh_row_on.new.rows stripe c.loop-number.invariant is
    c.refresh_row_on.ensures.value

pub returns-clause-value : goal.returns-clause-value
returns-clause-value c =
    let end : c.loop-number.number ≡ 4096 = omega (arith, c.loop-number.auto.number-end, c.loop-number-test.false) in
    anew-all (state_of c.args.book.now) c.args.node c.args.rows.now c.loop-number.number c.loop-number.rows end c.loop-number.invariant
