use Rattle.std.proofs.Common.{[], ◌∙◌, ◌&&◌, Bool, not, eqb, List, Option, IfSome, IsSome, is_some, ap, subst, refl}
use Rattle.lrc_code.specs.declared.numbers.Fragment.{Fragment}
use Rattle.lrc_code.specs.Codes.{all_fragments}
use Rattle.lrc_topology.specs.declared.NodeInfo.{NodeInfo}
use Rattle.lrc_topology.specs.Nodes.{node_at}
use Rattle.lrc_topology.specs.declared.seat.Seat.{Seat}
use Rattle.lrc_slots.specs.Slots.{Slots}
use Rattle.lrc_nodes.specs.States.{infos_in}
use Rattle.lrc_stripes.specs.Stored.{Stored}
use Rattle.lrc_store.proofs.NodeStateLemmas.{infos-kept}
use Rattle.lrc_bars.proofs.BesideLemmas.{home_at, homes-all}
use Rattle.lrc_store.proofs.KnownSeatLemmas.{IsKnown, home-known}
use Rattle.lrc_bars.proofs.NeighbourLemmas.{seats-bar, members-both}
use Rattle.lrc_store.proofs.store.Store.other_homes.Goals as goal

pub returns : goal.returns
returns c = λ st code kept members.
    let k = c.args.self.now in
    let s = c.args.stripe in
    let f = c.args.fragment in
    let nodes = k.topology in
    let home = λ (g : Fragment). ap (λ (t : Stored). t.homes s g.value) kept.stripes_is in
    let same = ap (λ (t : Slots). t.nodes) kept.table_is in
    let domains = c.domains.result.now in
    seats-bar nodes code s f (home_at st s) domains.faults domains.upgrades c.without-others.result.bits c.from_bits.result.bits
    (λ g. c.without-others.ensures g.value ∙ ap (λ (b : Bool). not (eqb g.value f.value) && b) (c.homed.ensures.homed g.value ∙ ap (λ (o : Option Seat). is_some o) (home g)))
    (λ g. members-both c.without-others.result.bits c.args.members.bits c.from_bits.result.bits g.value _ c.from_bits.ensures (members g))
    (λ g seat is. subst (λ (ns : List NodeInfo). IsSome (node_at ns seat.node)) same
    (subst (λ (o : Option Seat). IfSome o (IsKnown k)) (home g ∙ is) (home-known st k kept s g _ refl)))
    (λ g seat n is found. c.domains.ensures g.value seat n (home g ∙ is) (ap (λ (t : Stored). node_at (infos_in t.nodes) seat.node) kept.stripes_is ∙ (ap (λ (ns : List NodeInfo). node_at ns seat.node) (infos-kept st nodes) ∙ found)))
    all_fragments
    ∙ homes-all nodes st s kept.seated code f []
