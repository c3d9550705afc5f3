use Rattle.std.proofs.Common.{false, None, ap, ◌∙◌}
use Rattle.lrc_stripes.specs.Stored.{Stored, with_upgrading_in}
use Rattle.lrc_store.proofs.DomainLemmas.{domain-back, domain-kept}
use Rattle.lrc_rules.proofs.ToldLemmas.{upgraded-told}
use Rattle.lrc_store.proofs.store.Store.upgraded.Goals as goal

pub returns-clause-kept : goal.returns-clause-kept
returns-clause-kept g c =
    let kept = c.requires.0 in
    let nodes = c.args.self.now.topology in
    domain-kept g.st None c.args.self.now c.set_upgrading_in.new.self kept
    (c.set_upgrading_in.ensures ∙ ap (λ (t : Stored). with_upgrading_in t c.args.domain false) kept.stripes_is
    ∙ domain-back nodes g.st c.args.domain (upgraded-told nodes g.st c.args.domain c.requires.1))
