use Rattle.std.proofs.Common.{◌≡◌, replicate, None}
use Rattle.lrc_board.proofs.board.no_rows.Given as goal

abbrev pub invariant-loop : goal.invariant-loop
invariant-loop l = l.rows.items ≡ replicate l.counter None
