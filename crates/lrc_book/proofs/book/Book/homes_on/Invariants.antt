use Rattle.std.proofs.Common.{◌≡◌, ◌++◌}
use Rattle.lrc_book.proofs.book.Book.homes_on.Given as goal

-- the rows so far, and those that are left
abbrev pub invariant-loop-row : goal.invariant-loop-row
invariant-loop-row l = l.rows.items ++ l.row-iterator ≡ l.initial.row-iterator
