use Rattle.std.proofs.Common.{◌≡◌, ◌≤◌, List, length, map, vec_capacity, sym, subst, ap, ◌∙◌}
use Rattle.std.proofs.lemmas.List.{length-map}
use Rattle.lrc_sessions.specs.Views.{SessionView}
use Rattle.lrc_sessions.specs.Counts.{AreAll}
use Rattle.lrc_sessions.proofs.OpenedLemmas.{length_fresh}
use Rattle.probes.specs.declared.looks.worker.Worker.{Worker}
use Rattle.probes.proofs.NumberLemmas.{all_same}
use Rattle.probes.proofs.looks.concurrent.run_in.Goals as goal

pub assign_sessions-requires : goal.assign_sessions-requires
assign_sessions-requires g c =
    let long = ap length c.requires.opened ∙ length_fresh c.args.manager.count in
    (c.requires.workers.0, subst (λ n. n ≤ vec_capacity c.args.buffers.workers) (sym long) c.requires.workers.1)

pub collect_results-requires-clause-sessions : goal.collect_results-requires-clause-sessions
collect_results-requires-clause-sessions g c =
    let session = λ (w : Worker g.row.N.Denot). w.session in
    let seated = sym (length-map c.assign_sessions.new.workers.items session) ∙ ap length (c.assign_sessions.ensures ∙ c.requires.opened) ∙ length_fresh c.args.manager.count in
    let long = c.run_workers.ensures.same ∙ seated in
    (c.requires.sessions.0, subst (λ n. n ≤ vec_capacity c.args.buffers.sessions) (sym long) c.requires.sessions.1)

pub collect_results-requires-clause-done : goal.collect_results-requires-clause-done
collect_results-requires-clause-done g c =
    let session = λ (w : Worker g.row.N.Denot). w.session in
    let seated = sym (length-map c.assign_sessions.new.workers.items session) ∙ ap length (c.assign_sessions.ensures ∙ c.requires.opened) ∙ length_fresh c.args.manager.count in
    let long = c.run_workers.ensures.same ∙ seated in
    (c.requires.done.0, subst (λ n. n ≤ vec_capacity c.args.buffers.done) (sym long) c.requires.done.1)

pub finish-closing-requires : goal.finish-closing-requires
finish-closing-requires g c =
    let session = λ (w : Worker g.row.N.Denot). w.session in
    let back : map session c.run_workers.new.workers.items ≡ c.collect_results.new.sessions.items = sym c.collect_results.ensures in
    subst (λ (ss : List SessionView). AreAll c.args.manager.count ss) back
    (all_same session c.args.manager.count c.assign_sessions.new.workers.items c.run_workers.new.workers.items c.run_workers.ensures.same
    c.run_workers.ensures.numbers (c.assign_sessions.ensures ∙ c.requires.opened))
