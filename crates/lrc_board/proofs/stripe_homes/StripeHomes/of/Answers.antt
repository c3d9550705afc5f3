use Rattle.std.proofs.Common.{◌∙◌}
use Rattle.lrc_book.specs.Books.{state_of}
use Rattle.lrc_board.proofs.HomesLemmas.{row-none, row-bare, row-some}
use Rattle.lrc_board.proofs.stripe_homes.StripeHomes.of.Goals as goal

pub returns-in_err-code : goal.returns-in_err-code
returns-in_err-code c = c.from_residual.ensures ∙ row-none (state_of c.args.book.now) c.args.stripe c.in_err-code.ensures

pub returns-in_err-homes : goal.returns-in_err-homes
returns-in_err-homes c = c.from_residual-in_err-homes.ensures ∙ row-bare (state_of c.args.book.now) c.args.stripe c.in_err-homes.ensures

pub returns : goal.returns
returns c =
    row-some (state_of c.args.book.now) c.args.stripe c.in_ok-code.code c.in_ok-homes.homes c.in_ok-code.ensures c.in_ok-homes.ensures
