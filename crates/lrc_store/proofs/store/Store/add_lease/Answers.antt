use Rattle.std.proofs.Common.{List, sym, ap, subst, ◌∙◌}
use Rattle.lrc_topology.specs.declared.NodeInfo.{NodeInfo}
use Rattle.lrc_slots.specs.Slots.{Slots}
use Rattle.lrc_homes.specs.Domains.{AreDomainsKept}
use Rattle.lrc_terms.specs.Leased as leased
use Rattle.lrc_leases.specs.Tables.{leased_in}
use Rattle.lrc_rules.specs.Leases.{with_lease}
use Rattle.lrc_store.specs.declared.store.Store.{Store}
use Rattle.lrc_store.specs.Stores.{IsOf, targets_in}
use Rattle.lrc_store.proofs.EndLemmas.{lease-kept, target-within, target-free, add-kept}
use Rattle.lrc_store.proofs.store.Store.add_lease.Goals as goal

pub take_slot-requires : goal.take_slot-requires
take_slot-requires c =
    let (st, kept, may) = c.requires in record {
      within = target-within st c.args.self.now kept c.args.lease.now may;
      free = target-free st c.args.self.now kept c.args.lease.now may;
    }

pub add-requires : goal.add-requires
add-requires c =
    let (st, kept, may) = c.requires in record { absent = lease-kept st c.args.self.now kept c.args.lease.now.stripe c.args.lease.now.fragment ∙ may.new }

pub put_domains-requires : goal.put_domains-requires
put_domains-requires c =
    let (st, kept, may) = c.requires in kept.domains_are.long

pub returns-clause-kept : goal.returns-clause-kept
returns-clause-kept c = λ st kept may.
    let k = c.args.self.now in
    let l = c.args.lease.now in
    let t = leased_in k.leases in
    let table = c.take_slot.new.self in
    let m = c.put_domains.new.self in
    let same = ap (λ (x : Slots). x.nodes) c.take_slot.ensures ∙ ap (λ (x : Slots). x.nodes) kept.table_is in
    subst (λ (x : Store). IsOf (with_lease st l) x) (sym c.put_domains.ensures.rest)
    (add-kept st k kept l may table c.add.new.self m c.take_slot.ensures c.add.ensures
    (λ are. subst (λ (ns : List NodeInfo). AreDomainsKept ns (targets_in (leased.with_lease t l)) m.target_domains.items) same
    (c.put_domains.ensures.kept t (subst (λ (ns : List NodeInfo). AreDomainsKept ns (targets_in t) k.target_domains.items) (sym same) are))))
