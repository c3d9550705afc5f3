use Rattle.std.proofs.Common.{rules, ◌≡◌, length, map, sym, subst, ap, ◌∙◌}
use Rattle.std.proofs.lemmas.List.{length-map}
use Rattle.lrc_sessions.specs.declared.worker.Worker.{Worker}
use Rattle.lrc_sessions.specs.declared.track.Track.{Track}
use Rattle.lrc_sessions.specs.Runs.{Passes, AreRun}
use Rattle.lrc_sessions.proofs.RunLemmas.{some_of, buffer_at, AreRun-taken}
use Rattle.lrc_sessions.proofs.run.run_in.Goals as goal

pub run_workers-requires-clause-empty : goal.run_workers-requires-clause-empty
run_workers-requires-clause-empty g c κs within =
    let batches = λ (w : Worker g.row.N.Denot). w.batches in
    let is = c.assign_sessions-workers.ensures.batches in
    λ i w low. (buffer_at c.args.most batches c.args.scripts.now c.args.buffers.batches.items c.assign_sessions-workers.result.0.items is c.requires.batches i w (some_of c.args.scripts.now i low) low).0

pub run_workers-requires-clause-room : goal.run_workers-requires-clause-room
run_workers-requires-clause-room g c κs within =
    let batches = λ (w : Worker g.row.N.Denot). w.batches in
    let is = c.assign_sessions-workers.ensures.batches in
    λ i w s low. (buffer_at c.args.most batches c.args.scripts.now c.args.buffers.batches.items c.assign_sessions-workers.result.0.items is c.requires.batches i w s low).1

pub returns : goal.returns
returns g c =
    let session = λ (w : Worker g.row.N.Denot). w.session in
    let scripts = c.args.scripts.now in
    let most = g.G.Gate.most in
    let may_stop = g.G.Gate.may_stop in
    let passes = Passes g.G.Gate.lets g.G.Gate.tells in
    let old = c.assign_sessions-workers.result.0.items in
    let new = c.run_workers.new.workers.items in
    let track : Worker g.row.N.Denot → Track = λ w. record { batches = w.batches.items; stopped = w.stopped } in
    let long : length old ≡ length scripts = sym (length-map old session) ∙ (ap length c.assign_sessions-workers.ensures.sessions ∙ c.requires.sessions.0) in
    let run = AreRun-taken session (λ (w : Worker g.row.N.Denot). w.batches.items) (λ (w : Worker g.row.N.Denot). w.stopped) g.N.ViewNaming.limit most may_stop passes scripts old new long (search rules) c.run_workers.ensures.run in
    let before : map session old ≡ c.args.sessions.now.items = c.assign_sessions-workers.ensures.sessions in
    let after : map session new ≡ c.collect_results.new.sessions.items = search rules in
    let tracks : map track new ≡ c.collect_results.new.tracks.items = search rules in
    subst (λ ts. AreRun g.N.ViewNaming.limit most may_stop passes scripts c.args.sessions.now.items c.collect_results.new.sessions.items ts) tracks
    (subst (λ ss. AreRun g.N.ViewNaming.limit most may_stop passes scripts c.args.sessions.now.items ss (map track new)) after
    (subst (λ ss. AreRun g.N.ViewNaming.limit most may_stop passes scripts ss (map session new) (map track new)) before run))
