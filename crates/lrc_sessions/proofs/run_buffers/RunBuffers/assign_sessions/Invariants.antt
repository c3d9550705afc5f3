use Rattle.std.proofs.Common.{◌≡◌, ◌+◌, ◌≤◌, ◌++◌, length, map, vec_capacity}
use Rattle.std.specs.Vec.Iter.{into_iter_items}
use Rattle.lrc_sessions.specs.declared.worker.Worker.{Worker}
use Rattle.lrc_sessions.proofs.run_buffers.RunBuffers.assign_sessions.Given as goal

-- what is done and what is left are the whole
abbrev pub invariant-loop-batches : goal.invariant-loop-batches
invariant-loop-batches g l = record {
  can_next : (goal.iterator-loop-batches g).can_next l.batches-iterator;
  finite : (goal.iterator-loop-batches g).is_finite l.batches-iterator;
  sessions_is : map (λ (w : Worker g.row.N.Denot). w.session) l.workers.items ++ l.sessions.items ≡ l.fn.sessions.items;
  rooms_is : map (λ (w : Worker g.row.N.Denot). w.batches) l.workers.items ++ into_iter_items l.batches-iterator ≡ l.fn.self.batches.items;
  left_is : length l.sessions.items ≡ length (into_iter_items l.batches-iterator);
  room : length l.workers.items + length (into_iter_items l.batches-iterator) ≤ vec_capacity l.workers;
  capacity_is : vec_capacity l.sessions ≡ vec_capacity l.fn.sessions;
  tracks_is : l.tracks ≡ l.fn.self.tracks;
}
