use Rattle.std.proofs.Common.{◌≡◌, ◌+◌, ◌≤◌, ◌++◌, length, map, vec_capacity}
use Rattle.std.specs.Vec.Iter.{into_iter_items}
use Rattle.probes.specs.declared.looks.worker.Worker.{Worker}
use Rattle.probes.proofs.looks.worker.assign_sessions.Given as goal

-- what is done and what is left are the whole
abbrev pub invariant-loop-session : goal.invariant-loop-session
invariant-loop-session g l = record {
  can_next : (goal.iterator-loop-session g).can_next l.session-iterator;
  finite : (goal.iterator-loop-session g).is_finite l.session-iterator;
  sessions_is : map (λ (w : Worker g.row.N.Denot). w.session) l.workers.items ++ into_iter_items l.session-iterator ≡ l.fn.sessions.items;
  room : length l.workers.items + length (into_iter_items l.session-iterator) ≤ vec_capacity l.workers;
}
