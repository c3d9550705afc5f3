use Rattle.std.proofs.Common.{◌≡◌, ◌*◌, ◌<◌, ◌≤◌, length, drop, vec_capacity}
use Rattle.std.specs.Slice.Iter.{chunks_rest, chunks_size}
use Rattle.lrc_sessions.specs.Runs.{Passes}
use Rattle.lrc_sessions.proofs.ScriptLemmas.{HasRun}
use Rattle.lrc_sessions.proofs.worker.make_calls.Given as goal

-- all batches so far are full, if commands are left
abbrev pub invariant-loop-calls : goal.invariant-loop-calls
invariant-loop-calls g l = record {
  can_next : (goal.iterator-loop-calls g).can_next l.calls-iterator;
  finite : (goal.iterator-loop-calls g).is_finite l.calls-iterator;
  size : chunks_size l.calls-iterator ≡ l.most;
  left : drop l.done l.script ≡ chunks_rest l.calls-iterator;
  full : 0 < length (chunks_rest l.calls-iterator) → l.done ≡ length l.batches.items * l.most;
  room : length l.script ≤ vec_capacity l.batches * l.most;
  run : HasRun g.G.Gate.most (Passes g.G.Gate.lets g.G.Gate.tells) l.script l.initial.session l.session l.batches.items l.done;
}
