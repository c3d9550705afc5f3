use Rattle.lrc_book.specs.Books.{state_of}
use Rattle.lrc_board.proofs.RefreshLemmas.{AreAnewBelow}
use Rattle.lrc_board.proofs.board.refresh_rows_on.Given as goal

-- the rows so far
abbrev pub invariant-loop-number : goal.invariant-loop-number
invariant-loop-number l = AreAnewBelow (state_of l.book) l.node l.number l.initial.rows l.rows
