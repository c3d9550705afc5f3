use Rattle.std.proofs.Common.{Result, sym, ap, ◌∙◌}
use Rattle.std.specs.Result.{is_ok}
use Rattle.lrc_stripes.specs.Stored.{Stored}
use Rattle.lrc_rules.specs.declared.refusal.Refusal.{Refusal}
use Rattle.lrc_rules.specs.Placement.{chosen}
use Rattle.lrc_store.specs.declared.repair.Repair.{Repair}
use Rattle.lrc_store.specs.Stores.{repair_of}
use Rattle.lrc_store.proofs.NextRepairLemmas.{waiting-own, not-waiting, waiting-found, found-own, found-repair}
use Rattle.lrc_store.proofs.store.Store.waiting_repair.Goals as goal

pub returns-then-not-contains-clause-grantable : goal.returns-then-not-contains-clause-grantable
returns-then-not-contains-clause-grantable c = λ st kept.
    not-waiting c.args.self.now.topology st c.args.stripe c.args.fragment
    (sym (c.contains.ensures ∙ c.requires.waiting st kept) ∙ c.if-not-contains.true)

pub returns-in-Ok-clause-grantable : goal.returns-in-Ok-clause-grantable
returns-in-Ok-clause-grantable c = λ st kept.
    let waits = sym (c.contains.ensures ∙ c.requires.waiting st kept) ∙ c.if-not-contains.false in
    let own = waiting-own c.args.self.now.topology st c.args.stripe c.args.fragment waits in
    ap (λ (r : Result Repair Refusal). is_ok r) (sym c.in-Ok.is ∙ c.repair.ensures st kept own)
    ∙ waiting-found c.args.self.now.topology st c.args.stripe c.args.fragment waits

pub returns-in-Ok-clause-own : goal.returns-in-Ok-clause-own
returns-in-Ok-clause-own c =
    let (st, kept) = c.requires.tied in
    let waits = sym (c.contains.ensures ∙ c.requires.waiting st kept) ∙ c.if-not-contains.false in
    let own = waiting-own c.args.self.now.topology st c.args.stripe c.args.fragment waits in
    found-own c.args.stripe c.args.fragment (repair_of c.args.self.now.topology st c.args.stripe c.args.fragment)
    (chosen c.args.self.now.topology st c.args.stripe c.args.fragment) c.in-Ok.repair (sym (c.repair.ensures st kept own) ∙ c.in-Ok.is)

pub returns-in-Ok-clause-repair : goal.returns-in-Ok-clause-repair
returns-in-Ok-clause-repair c = λ st kept.
    let nodes = c.args.self.now.topology in
    let waits = sym (c.contains.ensures ∙ c.requires.waiting st kept) ∙ c.if-not-contains.false in
    let own = waiting-own nodes st c.args.stripe c.args.fragment waits in
    let found = sym (c.repair.ensures st kept own) ∙ c.in-Ok.is in
    let same = found-own c.args.stripe c.args.fragment (repair_of nodes st c.args.stripe c.args.fragment)
    (chosen nodes st c.args.stripe c.args.fragment) c.in-Ok.repair found in
    found-repair nodes st (c.args.stripe, c.args.fragment) c.in-Ok.repair same
    (sym (ap (λ (x : Stored). x.stripes c.args.stripe) kept.stripes_is) ∙ c.requires.there) waits found

pub returns-in-Err-clause-grantable : goal.returns-in-Err-clause-grantable
returns-in-Err-clause-grantable c = λ st kept.
    let waits = sym (c.contains.ensures ∙ c.requires.waiting st kept) ∙ c.if-not-contains.false in
    let own = waiting-own c.args.self.now.topology st c.args.stripe c.args.fragment waits in
    ap (λ (r : Result Repair Refusal). is_ok r) (sym c.in-Err.is ∙ c.repair.ensures st kept own)
    ∙ waiting-found c.args.self.now.topology st c.args.stripe c.args.fragment waits
