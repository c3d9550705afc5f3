use Rattle.std.proofs.Common.{◌≡◌, length, drop}
use Rattle.lrc_rules.specs.States.{online_at}
use Rattle.lrc_book.specs.Books.{state_of}
use Rattle.lrc_board.specs.Refreshed.{put_flags}
use Rattle.lrc_board.proofs.board.refresh_domain.Given as goal

-- the nodes so far and those to come are all
abbrev pub invariant-loop-node : goal.invariant-loop-node
invariant-loop-node l = record {
  long : length l.online ≡ 65536;
  put : put_flags (online_at l.book.nodes (state_of l.book)) l.online (drop l.node-index l.nodes) ≡ put_flags (online_at l.book.nodes (state_of l.book)) l.initial.online l.nodes;
}
