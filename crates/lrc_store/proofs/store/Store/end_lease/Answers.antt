use Rattle.std.proofs.Common.{sym, subst, ◌∙◌}
use Rattle.lrc_rules.specs.States.{State}
use Rattle.lrc_store.specs.Stores.{IsOf}
use Rattle.lrc_store.proofs.EndLemmas.{lease-kept, not-leased, none-ended, end-taken, end-kept, end-none}
use Rattle.lrc_store.proofs.store.Store.end_lease.Goals as goal

pub returns-then-not-contains-clause-kept : goal.returns-then-not-contains-clause-kept
returns-then-not-contains-clause-kept c = λ st kept.
    let out = sym (c.leased.ensures c.args.fragment.value) ∙ sym c.contains.ensures ∙ c.if-not-contains.true in
    let none = not-leased st c.args.self.now kept c.args.stripe c.args.fragment out in
    subst (λ (s : State). IsOf s c.args.self.now) (sym (none-ended st c.args.stripe c.args.fragment none)) kept

pub free-requires : goal.free-requires
free-requires c =
    let st = c.requires.0 in
    end-taken st c.args.self.now c.requires.1 c.args.stripe c.args.fragment c.in-Some.lease (sym (lease-kept st c.args.self.now c.requires.1 c.args.stripe c.args.fragment) ∙ sym c.remove.ensures.value ∙ c.in-Some.is)

pub returns-in-Some-clause-kept : goal.returns-in-Some-clause-kept
returns-in-Some-clause-kept c = λ st kept.
    end-kept st c.args.self.now kept c.args.stripe c.args.fragment c.in-Some.lease (sym (lease-kept st c.args.self.now kept c.args.stripe c.args.fragment) ∙ sym c.remove.ensures.value ∙ c.in-Some.is)
    c.free.new.self c.remove.new.self c.free.ensures c.remove.ensures.lease

pub returns-in_default-clause-kept : goal.returns-in_default-clause-kept
returns-in_default-clause-kept c = λ st kept.
    end-none st c.args.self.now kept c.args.stripe c.args.fragment (sym (lease-kept st c.args.self.now kept c.args.stripe c.args.fragment) ∙ sym c.remove.ensures.value ∙ c.in_default.is) c.remove.new.self c.remove.ensures.lease
