use Rattle.std.proofs.Common.{◌≡◌, length, drop}
use Rattle.lrc_book.specs.Books.{state_of}
use Rattle.lrc_board.specs.Refreshed.{online_refreshed}
use Rattle.lrc_board.proofs.board.refresh_online.Given as goal

-- the changes so far and those to come are all
abbrev pub invariant-loop-changed : goal.invariant-loop-changed
invariant-loop-changed l = record {
  long : length l.online ≡ 65536;
  put : online_refreshed l.book.nodes (state_of l.book) (drop l.changed-index l.changes) l.online
      ≡ online_refreshed l.book.nodes (state_of l.book) l.changes l.initial.online;
}
