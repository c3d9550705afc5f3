use Rattle.std.proofs.Common.{[], ◌∙◌, ◌&&◌, Bool, not, eqb, List, Option, IfSome, IsSome, is_some, option_map, ap, sym, subst, refl, arith}
use Rattle.lrc_code.specs.declared.numbers.Fragment.{Fragment}
use Rattle.lrc_code.specs.Codes.{all_fragments}
use Rattle.lrc_topology.specs.declared.NodeInfo.{NodeInfo}
use Rattle.lrc_topology.specs.Nodes.{node_at}
use Rattle.lrc_topology.specs.declared.seat.Seat.{Seat}
use Rattle.lrc_slots.specs.Slots.{Slots}
use Rattle.lrc_terms.specs.declared.lease.Lease.{Lease}
use Rattle.lrc_homes.specs.declared.home_domains.HomeDomains.{HomeDomains}
use Rattle.lrc_leases.specs.Tables.{leased_in}
use Rattle.lrc_homes.specs.Domains.{AreDomainsOf}
use Rattle.lrc_store.specs.Stores.{targets_in}
use Rattle.lrc_bars.proofs.BesideLemmas.{target_at, targets-all}
use Rattle.lrc_bars.proofs.NeighbourLemmas.{seats-bar, members-both}
use Rattle.lrc_store.proofs.EndLemmas.{lease-kept}
use Rattle.lrc_store.proofs.KnownSeatLemmas.{IsKnown, target-known}
use Rattle.lrc_store.proofs.TargetLemmas.{has-target}
use Rattle.lrc_store.proofs.store.Store.other_targets.Goals as goal

pub index-requires : goal.index-requires
index-requires c =
    let (st, kept) = c.requires in
    let long = kept.domains_are.long in
    let low = c.args.stripe.in_range in omega (arith, long, low)

pub returns : goal.returns
returns c = λ st code kept members.
    let k = c.args.self.now in
    let s = c.args.stripe in
    let f = c.args.fragment in
    let nodes = k.topology in
    let lease = λ (g : Fragment). ap (option_map (λ (l : Lease). l.target)) (lease-kept st k kept s g) in
    let same = ap (λ (t : Slots). t.nodes) kept.table_is in
    let domains = c.index.result.now in
    seats-bar nodes code s f (target_at st s) domains.faults domains.upgrades c.without-others.result.bits c.from_bits.result.bits
    (λ g. c.without-others.ensures g.value ∙ ap (λ (b : Bool). not (eqb g.value f.value) && b)
    (c.leased.ensures g.value ∙ has-target ((leased_in k.leases).leases s g.value) ∙ ap (λ (o : Option Seat). is_some o) (lease g)))
    (λ g. members-both c.without-others.result.bits c.args.members.bits c.from_bits.result.bits g.value _ c.from_bits.ensures (members g))
    (λ g seat is. subst (λ (ns : List NodeInfo). IsSome (node_at ns seat.node)) same
    (subst (λ (o : Option Seat). IfSome o (IsKnown k)) (lease g ∙ is) (target-known st k kept s g _ refl)))
    (λ g seat n is found. subst (λ (d : HomeDomains). AreDomainsOf nodes (targets_in (leased_in k.leases) s) d) (sym c.index.ensures) (kept.domains_are.each s domains) g.value seat n (lease g ∙ is) found)
    all_fragments
    ∙ targets-all nodes st s kept.seated code f []
