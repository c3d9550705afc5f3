use Rattle.std.proofs.Common.{◌≡◌, ◌<◌, ◌≤◌, ◌*◌, List, [], length, vec_capacity, sym, subst, arith, rules, slice_index_or}
use Rattle.lrc_sessions.specs.declared.worker.Worker.{Worker}
use Rattle.lrc_sessions.proofs.RunLemmas.{written_back}
use Rattle.lrc_sessions.proofs.run.run_workers.Goals as goal

pub for_each_mut-requires-clause-accepts : goal.for_each_mut-requires-clause-accepts
for_each_mut-requires-clause-accepts g c κs within i p low is =
    let same = sym c.as_mut_slice.ensures.value in
    let below : i < length c.args.scripts.now = omega arith in (
      below,
      subst (λ (w : Worker g.row.N.Denot). w.batches.items ≡ []) (sym is)
          (subst (λ (ws : List (Worker g.row.N.Denot)). (slice_index_or ws i p.now).batches.items ≡ []) same (c.requires.empty i p.now below)),
      λ s. subst (λ (w : Worker g.row.N.Denot). length (slice_index_or c.args.scripts.now i s).items ≤ vec_capacity w.batches * c.args.most) (sym is)
          (subst (λ (ws : List (Worker g.row.N.Denot)). length (slice_index_or c.args.scripts.now i s).items ≤ vec_capacity (slice_index_or ws i p.now).batches * c.args.most) same (c.requires.room i p.now s below)),
      c.requires.most.0,
      c.requires.most.1,
      c.requires.most.2,
    )

pub returns-clause-run : goal.returns-clause-run
returns-clause-run g c i w s low =
    let ch = (c.for_each_mut.ensures i w (omega arith)).1 in
    rw (written_back c.for_each_mut.new.s c.args.workers.now.items c.args.workers.now.len (search rules), sym c.as_mut_slice.ensures.value) (rw (← ch.argument_is, ← ch.left) (ch.call s))
