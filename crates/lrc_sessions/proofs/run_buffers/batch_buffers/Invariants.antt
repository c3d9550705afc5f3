use Rattle.std.proofs.Common.{◌≡◌, ℕ, ◌<◌, ◌≤◌, length, vec_len, vec_capacity, slice_index_or}
use Rattle.lrc_sessions.specs.Buffers.{HasRoomFor}
use Rattle.lrc_sessions.proofs.run_buffers.batch_buffers.Given as goal

abbrev pub invariant-loop-script : goal.invariant-loop-script
invariant-loop-script l = record {
  len_is : vec_len l.buffers ≡ l.script-index;
  room : length l.scripts ≤ vec_capacity l.buffers;
  each : (i : ℕ) (s : _) (r : _) → i < l.script-index → HasRoomFor l.most (slice_index_or l.scripts i s) (slice_index_or l.buffers.items i r);
}
