use Rattle.std.proofs.Common.{◌≡◌, take}
use Rattle.lrc_rules.specs.Histories.{IsLegalFrom}
use Rattle.lrc_board.specs.Batches.{AreMadeBehind}
use Rattle.lrc_outputs.proofs.play.make_all.Given as goal

abbrev pub invariant-loop-command : goal.invariant-loop-command
invariant-loop-command l = record {
  nodes : l.book.nodes ≡ l.fn.book.nodes;
  limit : l.book.limit ≡ l.fn.book.limit;
  base : l.book.base ≡ l.fn.book.base;
  before : l.book.before ≡ l.fn.book.before;
  made : AreMadeBehind l.fn.book.history l.session (take l.command-index l.commands) l.book.history;
  legal : IsLegalFrom l.fn.book.nodes l.fn.book.base l.fn.book.history → IsLegalFrom l.fn.book.nodes l.fn.book.base l.book.history;
}
