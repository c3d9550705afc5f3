use Rattle.std.proofs.Common.{◌∙◌}
use Rattle.lrc_board.proofs.EmptyLemmas.{none-after}
use Rattle.lrc_board.proofs.board.Board.new.Goals as goal

pub returns : goal.returns
returns c = λ i. record {
  rows = (c.in_ok-no_rows.ensures ∙ none-after) i;
  online = c.in_ok-first_online.ensures i;
  loads = c.in_ok-new.ensures i;
  count = 0;
  book = c.args.prefix.book;
  lines = c.args.prefix.log;
}
