use Rattle.std.proofs.Common.{refl, sym, ap, ◌∙◌}
use Rattle.std.proofs.lemmas.Bool.{not-true, not-false}
use Rattle.lrc_rules.specs.Steps.{is_the_domain}
use Rattle.lrc_store.proofs.UpgradeLemmas.{the-domain, upgraded-unknown, upgraded-other, upgraded-passed}
use Rattle.lrc_store.proofs.store.Store.upgraded_reply.Goals as goal

pub returns-then-not-has_upgrade_domain : goal.returns-then-not-has_upgrade_domain
returns-then-not-has_upgrade_domain c = λ st kept. sym (upgraded-unknown c.args.self.now.topology st c.args.domain
    (sym c.has_upgrade_domain.ensures ∙ c.if-not-has_upgrade_domain.true))

pub returns-then-ne : goal.returns-then-ne
returns-then-ne c = λ st kept.
    let other = not-true _ (sym c.ne.ensures ∙ c.if-ne.true) in
    sym (upgraded-other c.args.self.now.topology st c.args.domain (sym c.has_upgrade_domain.ensures ∙ c.if-not-has_upgrade_domain.false)
    (ap (is_the_domain c.args.domain) (sym kept.upgrading_is)
    ∙ sym (the-domain _ (λ a b. refl) c.args.domain c.args.self.now.upgrading) ∙ other))

pub returns : goal.returns
returns c = λ st kept.
    let this = not-false _ (sym c.ne.ensures ∙ c.if-ne.false) in
    sym (upgraded-passed c.args.self.now.topology st c.args.domain (sym c.has_upgrade_domain.ensures ∙ c.if-not-has_upgrade_domain.false)
    (ap (is_the_domain c.args.domain) (sym kept.upgrading_is)
    ∙ sym (the-domain _ (λ a b. refl) c.args.domain c.args.self.now.upgrading) ∙ this))
