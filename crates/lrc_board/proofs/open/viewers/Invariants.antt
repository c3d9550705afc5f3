use Rattle.std.proofs.Common.{◌≡◌, ◌≤◌, [], replicate, vec_capacity}
use Rattle.lrc_board.proofs.open.viewers.Given as goal

abbrev pub invariant-loop-number : goal.invariant-loop-number
invariant-loop-number g l = record {
  new : l.made.items ≡ replicate l._number [];
  room : l.readers ≤ vec_capacity l.made;
}
