use Rattle.std.proofs.Common.{◌≡◌}
use Rattle.lrc_book.specs.Books.{state_of}
use Rattle.lrc_book.proofs.StripeLemmas.{stripes_below}
use Rattle.lrc_book.proofs.book.Book.stripes.Given as goal

abbrev pub invariant-loop-number : goal.invariant-loop-number
invariant-loop-number l = l.rows.items ≡ stripes_below (state_of l.self) l.number
