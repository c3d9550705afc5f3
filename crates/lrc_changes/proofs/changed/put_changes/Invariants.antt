use Rattle.std.proofs.Common.{◌≡◌, take, drop, map, length}
use Rattle.lrc_book.specs.Books.{state_of}
use Rattle.lrc_changes.specs.Changes.{row_now}
use Rattle.lrc_changes.proofs.changed.put_changes.Given as goal

abbrev pub invariant-loop-i : goal.invariant-loop-i
invariant-loop-i l = record {
  written : take l.i l.rows ≡ map (row_now (state_of l.book)) (take l.i l.formers);
  rest : drop l.i l.rows ≡ drop l.i l.initial.rows;
  as_long : length l.rows ≡ length l.initial.rows;
}
