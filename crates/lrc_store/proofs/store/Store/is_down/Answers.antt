use Rattle.std.proofs.Common.{ap, ◌∙◌}
use Rattle.lrc_nodes.specs.States.{down_in}
use Rattle.lrc_stripes.specs.Stored.{Stored}
use Rattle.lrc_store.proofs.NodeStateLemmas.{down-known}
use Rattle.lrc_store.proofs.store.Store.is_down.Goals as goal

pub returns : goal.returns
returns c = λ st kept known.
    let n = c.args.node in
    c.is_down.ensures ∙ (ap (λ (t : Stored). down_in t.nodes n) kept.stripes_is ∙ down-known c.args.self.now.topology st n known)
