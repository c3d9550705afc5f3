use Rattle.std.proofs.Common.{◌≡◌, take, drop, map, length}
use Rattle.lrc_walks.specs.Outages.{outlook_row}
use Rattle.lrc_walks.proofs.outages.put_outlooks.Given as goal

abbrev pub invariant-loop-i : goal.invariant-loop-i
invariant-loop-i l = record {
  written : take l.i l.rows ≡ map outlook_row (take l.i l.outlooks);
  rest : drop l.i l.rows ≡ drop l.i l.initial.rows;
  as_long : length l.rows ≡ length l.initial.rows;
}
