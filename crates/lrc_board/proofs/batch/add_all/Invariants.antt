use Rattle.std.proofs.Common.{◌≡◌, ◌≤◌, length, take}
use Rattle.lrc_book.specs.Books.{state_of}
use Rattle.lrc_board.specs.Batches.{AreMadeBehind}
use Rattle.lrc_board.specs.Refreshed.{OthersStay, no_changes}
use Rattle.lrc_board.proofs.batch.add_all.Given as goal

abbrev pub invariant-loop-command : goal.invariant-loop-command
invariant-loop-command l = record {
  counted : l.count ≡ l.command-index;
  nodes : l.book.nodes ≡ l.fn.book.nodes;
  limit : l.book.limit ≡ l.fn.book.limit;
  base : l.book.base ≡ l.fn.book.base;
  before : l.book.before ≡ l.fn.book.before;
  made : AreMadeBehind l.fn.book.history l.session (take l.command-index l.commands) l.book.history;
  stay : OthersStay l.fn.book.nodes l.changes (state_of l.fn.book) (state_of l.book);
  stripes : length l.changes.stripes ≤ l.command-index;
  online : length l.changes.nodes ≤ l.command-index;
  first : l.command-index ≡ 0 → (l.book ≡ l.fn.book) × (l.changes ≡ no_changes);
}
