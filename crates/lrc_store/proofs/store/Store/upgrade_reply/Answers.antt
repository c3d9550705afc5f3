use Rattle.std.proofs.Common.{IsFalse, sym, ap, ◌∙◌, subst}
use Rattle.lrc_code.specs.declared.numbers.StripeNo.{StripeNo}
use Rattle.lrc_stripes.specs.Stored.{Stored}
use Rattle.lrc_stripes.specs.Upgrades.{at_rest, IsFirstShortLostTo, is_short_lost_to}
use Rattle.lrc_store.proofs.UpgradeLemmas.{upgrade-unknown, upgrade-running, upgrade-lost, upgrade-passed, lost-first, lost-none}
use Rattle.lrc_store.proofs.DomainLemmas.{domains-rest}
use Rattle.lrc_store.proofs.ShortUpgradeLemmas.{short-first, short-none}
use Rattle.lrc_store.proofs.store.Store.upgrade_reply.Goals as goal

pub returns-then-not-has_upgrade_domain : goal.returns-then-not-has_upgrade_domain
returns-then-not-has_upgrade_domain c = λ st kept. sym (upgrade-unknown c.args.self.now.topology st c.args.domain
    (sym c.has_upgrade_domain.ensures ∙ c.if-not-has_upgrade_domain.true))

pub returns-in-Some : goal.returns-in-Some
returns-in-Some c = λ st kept.
    sym (upgrade-running c.args.self.now.topology st c.args.domain
    (sym c.has_upgrade_domain.ensures ∙ c.if-not-has_upgrade_domain.false) c.in-Some.upgrading (sym kept.upgrading_is ∙ c.in-Some.is))

pub returns-in-Some-would_lose_short : goal.returns-in-Some-would_lose_short
returns-in-Some-would_lose_short c = λ st kept.
    let none = sym kept.upgrading_is ∙ c.in_default.is in
    let found = subst (λ (t : Stored). IsFirstShortLostTo t c.args.domain c.in-Some-would_lose_short.stripe) (ap at_rest kept.stripes_is ∙ domains-rest c.args.self.now.topology st c.args.domain none)
    c.in-Some-would_lose_short.ensures.found in
    sym (upgrade-lost c.args.self.now.topology st c.args.domain
    (sym c.has_upgrade_domain.ensures ∙ c.if-not-has_upgrade_domain.false) none c.in-Some-would_lose_short.stripe
    (lost-first c.args.self.now.topology st c.args.domain none c.in-Some-would_lose_short.stripe
    (short-first c.args.self.now.topology st kept.seated c.args.domain none c.in-Some-would_lose_short.stripe found)))

pub returns-in-None : goal.returns-in-None
returns-in-None c = λ st kept.
    let none = sym kept.upgrading_is ∙ c.in_default.is in
    let no_stripe = subst (λ (t : Stored). (s : StripeNo) → IsFalse (is_short_lost_to t c.args.domain s)) (ap at_rest kept.stripes_is ∙ domains-rest c.args.self.now.topology st c.args.domain none) c.in-None.ensures.none in
    sym (upgrade-passed c.args.self.now.topology st c.args.domain (sym c.has_upgrade_domain.ensures ∙ c.if-not-has_upgrade_domain.false) none
    (lost-none c.args.self.now.topology st c.args.domain none
    (short-none c.args.self.now.topology st kept.seated c.args.domain none no_stripe)))
