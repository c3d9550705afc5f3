use Rattle.std.proofs.Common.{◌≡◌, ◌≤◌, All, List, length, sum_by, IfOk, IfErr, inl, refl, sym, ap, subst, ◌∙◌}
use Rattle.std.proofs.lemmas.Result.{err_from_is_err_and}
use Rattle.lrc_code.specs.declared.fault.Fault.TheVariants as book
use Rattle.lrc_topology.specs.declared.NodeInfo.{NodeInfo}
use Rattle.lrc_sessions.specs.declared.track.Track.{Track}
use Rattle.lrc_sessions.specs.Views.{SessionView, fresh}
use Rattle.lrc_sessions.specs.Runs.{AreRun}
use Rattle.lrc_sessions.specs.Closing.{Closes}
use Rattle.lrc_sessions.proofs.OpenedLemmas.{length_fresh, all_left}
use Rattle.lrc_outputs.specs.Judged.{lists_of}
use Rattle.lrc_outputs.specs.Plays.{AreMade, IsTrackIn, tracks_text}
use Rattle.lrc_outputs.proofs.TrackLemmas.{open_passes, tracks_made, tracks_within, never_full}
use Rattle.lrc_outputs.proofs.together.run_each.Goals as goal

pub run_sessions-sessions-requires-after_bounds : goal.run_sessions-sessions-requires-after_bounds
run_sessions-sessions-requires-after_bounds g c κs within = ap length c.in-Ok.ensures.ok.1 ∙ (length_fresh c.args.parts.count ∙ sym c.requires.scripts.0)

pub unreachable-requires : goal.unreachable-requires
unreachable-requires g c =
    let opened = c.in-Ok.ensures.ok.1 in
    let long : length c.in-Ok.opened.1.items ≡ length c.args.scripts.now = ap length opened ∙ (length_fresh c.args.parts.count ∙ sym c.requires.scripts.0) in
    let ran = c.run_sessions-sessions in
    c.in-Err-SessionsOut.ensures.0 (all_left c.in-Ok.opened.0.count g.N.ViewNaming.limit 256 _ open_passes c.args.scripts.now c.in-Ok.opened.1 ran.result.0 ran.result.1 (opened ∙ ap fresh (sym c.in-Ok.ensures.ok.0)) long ran.ensures.ok ran.ensures.err)

-- no script was run
pub returns-in_err-ran-in-Ok-finish-clause-err : goal.returns-in_err-ran-in-Ok-finish-clause-err
returns-in_err-ran-in-Ok-finish-clause-err g c =
    let p = err_from_is_err_and c.from_residual.result c.from_residual.ensures.1 in
    let ran = c.run_sessions-sessions in
    let none = subst (λ r. IfErr r (λ e. (e ≡ book.OutOfMemory) × (ran.result.0 ≡ c.in-Ok.opened.1))) c.in_err-ran-in-Ok-finish.was ran.ensures.err in
    rw (p.1, p.2, none.0) (inl refl)

-- a full history stopped no script
pub unstopped-requires : goal.unstopped-requires
unstopped-requires g c =
    let scripts = c.args.scripts.now in
    let after = c.run_sessions-sessions.result.0.items in
    let tracks = c.in_ok-ran-in-Ok-finish.field-0.items in
    let opened : c.in-Ok.opened.1.items ≡ fresh (length scripts) = c.in-Ok.ensures.ok.1 ∙ ap fresh (sym c.requires.scripts.0) in
    let count : c.in-Ok.opened.0.count ≡ length scripts = c.in-Ok.ensures.ok.0 ∙ sym c.requires.scripts.0 in
    let made = subst (λ r. IfOk r (λ v. AreRun g.N.ViewNaming.limit 256 ⊥ open_passes scripts c.in-Ok.opened.1.items after v.items)) c.in_ok-ran-in-Ok-finish.was c.run_sessions-sessions.ensures.ok in
    let ran = subst (λ (ss : List SessionView). AreRun g.N.ViewNaming.limit 256 ⊥ open_passes scripts ss after tracks) opened made in
    let closes = subst (λ n. Closes g.N.ViewNaming.topology g.N.ViewNaming.limit n after c.in-Ok-finish.closing) count c.in-Ok-finish.ensures in
    let few = subst (λ n. sum_by (λ v. length v.items) scripts ≤ n) c.requires.limit c.requires.few in
    record { room = never_full g.N.ViewNaming.topology g.N.ViewNaming.limit 256 scripts after tracks c.in-Ok-finish.closing ran closes few }

pub returns-clause-made : goal.returns-clause-made
returns-clause-made g c =
    let scripts = c.args.scripts.now in
    let after = c.run_sessions-sessions.result.0.items in
    let opened : c.in-Ok.opened.1.items ≡ fresh (length scripts) = c.in-Ok.ensures.ok.1 ∙ ap fresh (sym c.requires.scripts.0) in
    let count : c.in-Ok.opened.0.count ≡ length scripts = c.in-Ok.ensures.ok.0 ∙ sym c.requires.scripts.0 in
    let made = subst (λ r. IfOk r (λ v. AreRun g.N.ViewNaming.limit 256 ⊥ open_passes scripts c.in-Ok.opened.1.items after v.items)) c.in_ok-ran-in-Ok-finish.was c.run_sessions-sessions.ensures.ok in
    let ran = subst (λ (ss : List SessionView). AreRun g.N.ViewNaming.limit 256 ⊥ open_passes scripts ss after c.in_ok-ran-in-Ok-finish.field-0.items) opened made in
    let closes = subst (λ n. Closes g.N.ViewNaming.topology g.N.ViewNaming.limit n after c.in-Ok-finish.closing) count c.in-Ok-finish.ensures in
    let told = tracks_made g.N.ViewNaming.topology g.N.ViewNaming.limit 256 scripts after c.in_ok-ran-in-Ok-finish.field-0.items c.in-Ok-finish.closing ran c.in_ok-unstopped-in-Ok-finish.ensures.ok.1 closes in
    let shown = subst (λ (ts : List Track). AreMade g.N.ViewNaming.topology (lists_of scripts) c.in-Ok-finish.closing.book.history (tracks_text c.in-Ok-finish.closing.book.history 1 ts))
    (sym c.in_ok-unstopped-in-Ok-finish.ensures.ok.0) told in
    subst (λ (ns : List NodeInfo). AreMade ns (lists_of scripts) c.in-Ok-finish.closing.book.history (tracks_text c.in-Ok-finish.closing.book.history 1 c.in_ok-unstopped-in-Ok-finish.field-0.items))
    (sym c.requires.topology) shown

pub returns-clause-within : goal.returns-clause-within
returns-clause-within g c =
    let scripts = c.args.scripts.now in
    let after = c.run_sessions-sessions.result.0.items in
    let history = c.in-Ok-finish.closing.book.history in
    let opened : c.in-Ok.opened.1.items ≡ fresh (length scripts) = c.in-Ok.ensures.ok.1 ∙ ap fresh (sym c.requires.scripts.0) in
    let count : c.in-Ok.opened.0.count ≡ length scripts = c.in-Ok.ensures.ok.0 ∙ sym c.requires.scripts.0 in
    let made = subst (λ r. IfOk r (λ v. AreRun g.N.ViewNaming.limit 256 ⊥ open_passes scripts c.in-Ok.opened.1.items after v.items)) c.in_ok-ran-in-Ok-finish.was c.run_sessions-sessions.ensures.ok in
    let ran = subst (λ (ss : List SessionView). AreRun g.N.ViewNaming.limit 256 ⊥ open_passes scripts ss after c.in_ok-ran-in-Ok-finish.field-0.items) opened made in
    let closes = subst (λ n. Closes g.N.ViewNaming.topology g.N.ViewNaming.limit n after c.in-Ok-finish.closing) count c.in-Ok-finish.ensures in
    let within = tracks_within g.N.ViewNaming.topology g.N.ViewNaming.limit 256 scripts after c.in_ok-ran-in-Ok-finish.field-0.items c.in-Ok-finish.closing ran closes in
    subst (λ (ts : List Track). All (IsTrackIn history) ts) (sym c.in_ok-unstopped-in-Ok-finish.ensures.ok.0) within
