use Rattle.std.proofs.Common.{◌≡◌, ◌+◌, ◌≤◌, ◌++◌, length, map, vec_capacity}
use Rattle.std.specs.Vec.Iter.{into_iter_items}
use Rattle.lrc_sessions.specs.declared.worker.Worker.{Worker}
use Rattle.lrc_sessions.proofs.run_buffers.collect_results.Given as goal

-- what is done and what is left are the whole
abbrev pub invariant-loop-worker : goal.invariant-loop-worker
invariant-loop-worker g l = record {
  can_next : (goal.iterator-loop-worker g).can_next l.worker-iterator;
  finite : (goal.iterator-loop-worker g).is_finite l.worker-iterator;
  sessions_is : l.sessions.items ++ map (λ (w : Worker g.row.N.Denot). w.session) (into_iter_items l.worker-iterator)
      ≡ map (λ (w : Worker g.row.N.Denot). w.session) l.fn.workers.items;
  tracks_is : l.tracks.items ++ map (λ (w : Worker g.row.N.Denot). record { batches = w.batches.items; stopped = w.stopped }) (into_iter_items l.worker-iterator)
      ≡ map (λ (w : Worker g.row.N.Denot). record { batches = w.batches.items; stopped = w.stopped }) l.fn.workers.items;
  room_for_sessions : length l.sessions.items + length (into_iter_items l.worker-iterator) ≤ vec_capacity l.sessions;
  room_for_tracks : length l.tracks.items + length (into_iter_items l.worker-iterator) ≤ vec_capacity l.tracks;
}
