use Rattle.std.proofs.Common.{sym, ap, ◌∙◌}
use Rattle.lrc_stripes.specs.Stored.{Stored}
use Rattle.lrc_store.proofs.EndLemmas.{lease-kept}
use Rattle.lrc_store.proofs.LeaseReplyLemmas.{answer-by, lease-absent, lease-again, lease-unneeded, lease-decided}
use Rattle.lrc_rules.proofs.UrgencyLemmas.{needs-own}
use Rattle.lrc_store.proofs.store.Store.lease_reply.Goals as goal

pub returns-then-not-contains : goal.returns-then-not-contains
returns-then-not-contains c = λ st past kept counted.
    sym (lease-absent c.args.self.now.topology past st c.args.session c.args.stripe c.args.fragment
    (sym (ap (λ (x : Stored). x.stripes c.args.stripe) kept.stripes_is) ∙ sym c.contains.ensures ∙ c.if-not-contains.true))

pub returns-in-Some : goal.returns-in-Some
returns-in-Some c = λ st past kept counted.
    let there = sym (ap (λ (x : Stored). x.stripes c.args.stripe) kept.stripes_is) ∙ sym c.contains.ensures ∙ c.if-not-contains.false in
    let live = sym (lease-kept st c.args.self.now kept c.args.stripe c.args.fragment) ∙ sym c.lease.ensures.value ∙ c.in-Some.is in
    sym (lease-again c.args.self.now.topology past st c.args.session c.args.stripe c.args.fragment c.in-Some.lease there live)

pub returns-then-not-contains-2 : goal.returns-then-not-contains-2
returns-then-not-contains-2 c = λ st past kept counted.
    let there = sym (ap (λ (x : Stored). x.stripes c.args.stripe) kept.stripes_is) ∙ sym c.contains.ensures ∙ c.if-not-contains.false in
    let none = sym (lease-kept st c.args.self.now kept c.args.stripe c.args.fragment) ∙ sym c.lease.ensures.value ∙ c.in_default.is in
    sym (lease-unneeded c.args.self.now.topology past st c.args.session c.args.stripe c.args.fragment there none (sym (c.contains-2.ensures ∙ c.needs.ensures st c.args.fragment kept) ∙ c.if-not-contains-2.true))

pub returns-in-Ok : goal.returns-in-Ok
returns-in-Ok c = λ st past kept counted.
    let nodes = c.args.self.now.topology in
    let s = c.args.stripe in
    let f = c.args.fragment in
    let there = sym (ap (λ (x : Stored). x.stripes s) kept.stripes_is) ∙ sym c.contains.ensures ∙ c.if-not-contains.false in
    let none = sym (lease-kept st c.args.self.now kept s f) ∙ sym c.lease.ensures.value ∙ c.in_default.is in
    let needed = sym (c.contains-2.ensures ∙ c.needs.ensures st f kept) ∙ c.if-not-contains-2.false in
    let found = sym (c.repair.ensures st kept (needs-own nodes st s f needed)) ∙ c.in-Ok.is in
    c.granted_to.ensures past st counted kept.clock_is
    ∙ sym (lease-decided nodes past st c.args.session s f there none needed ∙ ap (answer-by nodes past st c.args.session s f) found)

pub returns-in-Err : goal.returns-in-Err
returns-in-Err c = λ st past kept counted.
    let nodes = c.args.self.now.topology in
    let s = c.args.stripe in
    let f = c.args.fragment in
    let there = sym (ap (λ (x : Stored). x.stripes s) kept.stripes_is) ∙ sym c.contains.ensures ∙ c.if-not-contains.false in
    let none = sym (lease-kept st c.args.self.now kept s f) ∙ sym c.lease.ensures.value ∙ c.in_default.is in
    let needed = sym (c.contains-2.ensures ∙ c.needs.ensures st f kept) ∙ c.if-not-contains-2.false in
    let found = sym (c.repair.ensures st kept (needs-own nodes st s f needed)) ∙ c.in-Err.is in
    sym (lease-decided nodes past st c.args.session s f there none needed ∙ ap (answer-by nodes past st c.args.session s f) found)
