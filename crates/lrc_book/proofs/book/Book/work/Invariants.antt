use Rattle.std.proofs.Common.{◌≡◌, ◌++◌}
use Rattle.lrc_book.proofs.book.Book.work.Given as goal

-- the rows so far, and those that are left
abbrev pub invariant-loop-stripe : goal.invariant-loop-stripe
invariant-loop-stripe l = l.rows.items ++ l.stripe-iterator ≡ l.initial.stripe-iterator
