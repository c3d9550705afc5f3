use Rattle.std.proofs.Common.{◌≡◌, length, true}
use Rattle.lrc_board.specs.Refreshed.{put_flags}
use Rattle.lrc_board.proofs.board.mark_all.Given as goal

-- the nodes so far and those to come are all
abbrev pub invariant-loop-node : goal.invariant-loop-node
invariant-loop-node l = record {
  long : length l.online ≡ 65536;
  marked : put_flags (λ n. true) l.online l.node-iterator ≡ put_flags (λ n. true) l.initial.online l.topology;
}
