-- Alike states show the same to every look.
use Rattle.std.proofs.Common.{◌≡◌, not, ◌&&◌, if◌then◌else◌, false, List, filter, Some, None, option_map, is_none, is_some}
use Rattle.std.specs.Option.{option_map_or}
use Rattle.std.proofs.Math.Path.{fun_ext}
use Rattle.lrc_code.specs.declared.numbers.StripeNo.{StripeNo}
use Rattle.lrc_code.specs.declared.numbers.NodeNo.{NodeNo}
use Rattle.lrc_code.specs.declared.numbers.Fragment.{Fragment}
use Rattle.lrc_code.specs.Numbers.{same_node}
use Rattle.lrc_topology.specs.declared.NodeInfo.{NodeInfo}
use Rattle.lrc_topology.specs.declared.seat.Seat.{Seat}
use Rattle.lrc_topology.specs.Nodes.{node_at}
use Rattle.lrc_terms.specs.Stripes.{StripeFragment}
use Rattle.lrc_rules.specs.States.{State}
use Rattle.lrc_rules.specs.Alike.{AreAlike}
use Rattle.lrc_rules.specs.Goodness.{AreSeated}
use Rattle.lrc_rules.proofs.AlikeReadLemmas.{alike-there, alike-down, alike-homes, alike-leases, alike-needs, alike-kind, alike-beyond}
use Rattle.lrc_rules.proofs.AlikeChoiceLemmas.{alike-chosen}
use Rattle.lrc_rules.proofs.AlikeWorldLemmas.{alike-shows}
use Rattle.lrc_book.specs.Looks.{down_shown, stripe_numbers, stripes_of, places, homes_on, kind_shown, is_granted_now}
use Rattle.lrc_book.specs.SameLooks.{HaveSameLooks}

module _ (nodes : List NodeInfo) (w v : State) (alike : AreAlike w v) (seated : AreSeated nodes w) (seated' : AreSeated nodes v) where
  same-down : (n : NodeNo) → down_shown nodes w n ≡ down_shown nodes v n
  same-down n = let down = fun_ext (alike-down w v alike) in λ i. option_map (λ (m : NodeInfo). down i m.number) (node_at nodes n)

  same-stripes : stripes_of w ≡ stripes_of v
  unfolding stripes_of
  same-stripes = let there = alike-there w v alike in λ i. filter (there i) stripe_numbers

  same-homes_on : (n : NodeNo) → homes_on w n ≡ homes_on v n
  unfolding homes_on
  same-homes_on n =
      let homes = alike-homes nodes w v alike seated seated' in
      λ i. filter (λ (p : StripeFragment). option_map_or (λ (seat : Seat). same_node n seat.node) (homes i p.0 p.1.value) false) places

  same-kind : (s : StripeNo) (f : Fragment) → kind_shown nodes w s f ≡ kind_shown nodes v s f
  same-kind s f =
      let there = alike-there w v alike in
      let needs = alike-needs nodes w v alike seated seated' in
      let kind = alike-kind nodes w v alike seated seated' in
      λ i. if there i s && needs i s f then Some (kind i s f) else None

  same-grantable : (s : StripeNo) (f : Fragment) → is_granted_now nodes w s f ≡ is_granted_now nodes v s f
  same-grantable s f =
      let there = alike-there w v alike in
      let leases = alike-leases nodes w v alike seated seated' in
      let needs = alike-needs nodes w v alike seated seated' in
      let beyond = alike-beyond nodes w v alike seated seated' in
      let chosen = alike-chosen nodes w v alike seated seated' in
      λ i. there i s && (is_none (leases i s f.value) && (needs i s f && (not (beyond i s f) && is_some (chosen i s f))))

  pub alike-looks : HaveSameLooks nodes w v
  alike-looks = record {
    reads = alike-shows nodes w v alike seated seated';
    upgrading = alike.upgrading;
    down = same-down;
    stripes = same-stripes;
    homes_on = same-homes_on;
    kinds = same-kind;
    grantable = same-grantable;
  }
