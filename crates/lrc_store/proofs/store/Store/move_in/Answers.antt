use Rattle.std.proofs.Common.{◌≡◌, true, false, Option, Some, None, IsTrue, sym, ap, subst, ◌∙◌}
use Rattle.lrc_code.specs.Codes.{has_fragment}
use Rattle.lrc_terms.specs.declared.lease.Lease.{Lease}
use Rattle.lrc_leases.specs.Tables.{leased_in}
use Rattle.lrc_terms.specs.Leased as leased
use Rattle.lrc_nodes.specs.States.{infos_in}
use Rattle.lrc_stripes.specs.Stored.{Stored, has_slot, HasNoHome}
use Rattle.lrc_stripes.specs.Stored as stored
use Rattle.lrc_stripes.specs.Tables.{stored_in}
use Rattle.lrc_store.specs.declared.store.Store.{Store}
use Rattle.lrc_rules.specs.States.{lease_of}
use Rattle.lrc_rules.specs.Leases.{moved_in}
use Rattle.lrc_rules.specs.Changes.{with_done}
use Rattle.lrc_store.specs.Stores.{IsOf}
use Rattle.lrc_store.proofs.EndLemmas.{lease-kept, move-own, move-slot, move-unused, move-kept}
use Rattle.lrc_store.proofs.store.Store.move_in.Goals as goal

pub free_home-requires : goal.free_home-requires
free_home-requires g c = record { tied = (g.st, c.requires.0); there = ap (λ (x : Stored). x.stripes c.args.stripe) c.requires.0.stripes_is ∙ c.requires.1.0 }

pub put_home-requires : goal.put_home-requires
put_home-requires g c =
    let k = c.args.self.now in
    let s = c.args.stripe in
    let f = c.args.fragment in
    let same = sym c.free_home.ensures.rest in
    let lease = c.in-Some.lease in
    let live : lease_of g.st s f ≡ Some c.in-Some.lease = sym (lease-kept g.st k c.requires.0 s f)
    ∙ ap (λ (x : Store). (leased_in x.leases).leases s f.value) same ∙ sym c.remove.ensures.value ∙ c.in-Some.is in
    record {
      stripe = subst (λ (x : Store). IsTrue ((stored_in x.stripes).stripes s)) same (ap (λ (x : Stored). x.stripes s) c.requires.0.stripes_is ∙ c.requires.1.0);
      code = subst (λ (x : Store). IsTrue (has_fragment ((stored_in x.stripes).code s) f.value)) same (move-own g.st k c.requires.0 s f lease live);
      slot = subst (λ (x : Store). IsTrue (has_slot (infos_in (stored_in x.stripes).nodes) lease.target)) same (move-slot g.st k c.requires.0 s f lease live);
      unused = subst (λ (x : Store). HasNoHome (stored_in x.stripes) lease.target) same (move-unused g.st k c.requires.0 s f lease live);
    }

pub returns-in-Some-clause-kept : goal.returns-in-Some-clause-kept
returns-in-Some-clause-kept g c =
    let k = c.args.self.now in
    let s = c.args.stripe in
    let f = c.args.fragment in
    let same = sym c.free_home.ensures.rest in
    let target = c.in-Some.lease.target in
    let stripes = c.put_home.new.self in
    let leases = c.remove.new.self in
    let live : lease_of g.st s f ≡ Some c.in-Some.lease = sym (lease-kept g.st k c.requires.0 s f)
    ∙ ap (λ (x : Store). (leased_in x.leases).leases s f.value) same ∙ sym c.remove.ensures.value ∙ c.in-Some.is in
    subst (λ (o : Option Lease). IsOf (with_done g.st s f o) (record c.free_home.new.self { stripes = stripes; leases = leases })) (sym live)
    (subst (λ (x : Store). stored_in stripes ≡ stored.with_home (stored_in x.stripes) s f (Some target)
    → leased_in leases ≡ leased.without_lease (leased_in x.leases) s f
    → IsOf (moved_in g.st s f target) (record x { stripes = stripes; leases = leases })) same
    (move-kept g.st k c.requires.0 s f c.in-Some.lease live c.free_home.new.self.table stripes leases (c.free_home.ensures.table g.st c.requires.0))
    c.put_home.ensures c.remove.ensures.lease)

pub returns-in_default-clause-kept : goal.returns-in_default-clause-kept
returns-in_default-clause-kept g c =
    let s = c.args.stripe in
    let f = c.args.fragment in
    let none : lease_of g.st s f ≡ None = sym (lease-kept g.st c.args.self.now c.requires.0 s f)
    ∙ ap (λ (x : Store). (leased_in x.leases).leases s f.value) (sym c.free_home.ensures.rest) ∙ sym c.remove.ensures.value ∙ c.in_default.is in
    absurd (let never : false ≡ true = rw none at c.requires.1.1 in cc)

pub returns-in-Some-clause-nodes : goal.returns-in-Some-clause-nodes
returns-in-Some-clause-nodes g c = ap (λ (x : Store). x.topology) c.free_home.ensures.rest

pub returns-in_default-clause-nodes : goal.returns-in_default-clause-nodes
returns-in_default-clause-nodes g c = ap (λ (x : Store). x.topology) c.free_home.ensures.rest
