use Rattle.std.proofs.Common.{List, sym, subst, ap, ◌∙◌}
use Rattle.lrc_sessions.specs.Views.{SessionView, fresh}
use Rattle.lrc_sessions.specs.Counts.{AreAll}
use Rattle.lrc_sessions.proofs.OpenedLemmas.{all_fresh}
use Rattle.probes.proofs.looks.concurrent.run_concurrently.Goals as goal

pub finish-requires : goal.finish-requires
finish-requires g c =
    let opened = c.in_ok-manager.ensures.ok in
    let fresh_ones = opened.1 ∙ ap fresh (sym opened.0) in
    subst (λ (ss : List SessionView). AreAll c.in_ok-manager.manager.count ss) (sym fresh_ones) (all_fresh c.in_ok-manager.manager.count)
