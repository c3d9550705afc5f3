use Rattle.std.proofs.Common.{true, Some, sym, ap, ◌∙◌}
use Rattle.lrc_stripes.specs.Stored.{Stored, with_upgrading_in}
use Rattle.lrc_store.proofs.DomainLemmas.{domain-out, domain-kept}
use Rattle.lrc_store.proofs.store.Store.upgrade.Goals as goal

pub returns-clause-kept : goal.returns-clause-kept
returns-clause-kept c = λ st kept.
    let nodes = c.args.self.now.topology in
    domain-kept st (Some c.args.domain) c.args.self.now c.set_upgrading_in.new.self kept
    (c.set_upgrading_in.ensures ∙ ap (λ (t : Stored). with_upgrading_in t c.args.domain true) kept.stripes_is
    ∙ domain-out nodes st c.args.domain (sym kept.upgrading_is ∙ c.requires))
