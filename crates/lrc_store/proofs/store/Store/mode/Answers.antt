use Rattle.std.proofs.Common.{option_map, ap, ◌∙◌}
use Rattle.lrc_nodes.specs.States.{state_at}
use Rattle.lrc_stripes.specs.Stored.{Stored}
use Rattle.lrc_store.proofs.NodeStateLemmas.{mode-known}
use Rattle.lrc_store.proofs.store.Store.mode.Goals as goal

pub returns : goal.returns
returns c = λ st kept known.
    let n = c.args.node in
    let told = c.mode.ensures ∙ (ap (λ (t : Stored). option_map (λ x. x.mode) (state_at t.nodes n)) kept.stripes_is ∙ mode-known c.args.self.now.topology st n known) in
    rw told at c.unwrap_or.ensures
