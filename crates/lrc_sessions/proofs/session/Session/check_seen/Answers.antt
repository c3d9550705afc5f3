use Rattle.std.proofs.Common.{◌≤◌, subst, le_trans}
use Rattle.lrc_sessions.specs.Views.{SessionView}
use Rattle.lrc_sessions.specs.Counts.{made_in}
use Rattle.lrc_sessions.proofs.CallLemmas.{made_in-prefix}
use Rattle.lrc_sessions.proofs.session.Session.check_seen.Goals as goal

pub returns-clause-made : goal.returns-clause-made
returns-clause-made g c =
    let s = c.self.inside in
    let h = c.args.keeper.now.history in
    subst (λ (v : SessionView). v.made ≤ made_in v.number h) c.self.view_is
    (le_trans c.self.invariant.4 (made_in-prefix s.number.value s.viewer h c.covers.ensures.covers))
