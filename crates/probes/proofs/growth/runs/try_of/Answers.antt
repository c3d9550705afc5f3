use Rattle.std.proofs.Common.{List, sym, subst, ap, ◌∙◌}
use Rattle.lrc_sessions.specs.Views.{SessionView, fresh}
use Rattle.lrc_sessions.specs.Counts.{AreAll}
use Rattle.lrc_sessions.proofs.OpenedLemmas.{all_fresh}
use Rattle.probes.proofs.growth.runs.try_of.Goals as goal

pub finish-closing-requires : goal.finish-closing-requires
finish-closing-requires g c =
    let opened = c.in_ok-manager.ensures.ok in
    let count = c.in_ok-manager.manager.count in
    let fresh_ones = opened.1 ∙ ap fresh (sym opened.0) in
    let all = subst (λ (ss : List SessionView). AreAll count ss) (sym fresh_ones) (all_fresh count) in
    c.run_once-sessions-2.ensures.all count (c.run_once-sessions.ensures.all count all)
