use Rattle.std.proofs.Common.{sym, ap, ◌∙◌}
use Rattle.lrc_stripes.specs.Stored.{Stored, needs_shown}
use Rattle.lrc_store.proofs.NodeStateLemmas.{needs-kept}
use Rattle.lrc_store.proofs.RepairLemmas.{needs-set}
use Rattle.lrc_store.proofs.store.Store.needs.Goals as goal

pub returns : goal.returns
returns c = λ st f kept.
    let there = sym (ap (λ (x : Stored). x.stripes c.args.stripe) kept.stripes_is) ∙ c.requires in
    needs-set c.args.self.now.topology st c.args.stripe there c.needs_there.result
    (c.needs_there.ensures ∙ (ap (λ (x : Stored). needs_shown x c.args.stripe) kept.stripes_is ∙ needs-kept c.args.self.now.topology st c.args.stripe)) f
