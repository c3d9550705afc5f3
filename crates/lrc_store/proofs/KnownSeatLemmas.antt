-- The nodes of homes and of leases' targets are nodes of the slot table.
use Rattle.std.proofs.Common.{◌≡◌, Option, Some, None, option_map, IsSome, IfSome, IsSomeAnd, refl, sym, ◌∙◌, subst}
use Rattle.std.specs.List.{Contains}
use Rattle.std.proofs.lemmas.List.Elements.{All-contains}
use Rattle.lrc_code.specs.declared.numbers.StripeNo.{StripeNo}
use Rattle.lrc_code.specs.declared.numbers.Fragment.{Fragment}
use Rattle.lrc_topology.specs.declared.NodeInfo.{NodeInfo}
use Rattle.lrc_topology.specs.declared.seat.Seat.{Seat}
use Rattle.lrc_topology.specs.Nodes.{node_at}
use Rattle.lrc_slots.specs.Slots.{Slots}
use Rattle.lrc_slots.specs.Tables.{slots_of}
use Rattle.lrc_stripes.specs.Tables.{stored_in}
use Rattle.lrc_terms.specs.declared.lease.Lease.{Lease}
use Rattle.lrc_leases.specs.Tables.{leased_in}
use Rattle.lrc_store.specs.declared.store.Store.{Store}
use Rattle.lrc_rules.specs.States.{State, taken_seats}
use Rattle.lrc_rules.specs.Goodness.{IsStanding}
use Rattle.lrc_store.specs.Stores.{IsOf}
use Rattle.lrc_store.proofs.ClearLemmas.{home-kept}
use Rattle.lrc_store.proofs.EndLemmas.{lease-kept}
use Rattle.lrc_rules.proofs.TakenLemmas.{home-seat, target-seat}
use Rattle.lrc_rules.proofs.LookUpLemmas.{there-lease, found-home}

-- the slot table has the node of the seat
abbrev pub IsKnown : Store → Seat → Type 0
IsKnown k seat = IsSome (node_at (slots_of k.table).nodes seat.node)

standing-node : (o : Option NodeInfo) (P : NodeInfo → Type 0) → IsSomeAnd o P → IsSome o
standing-node (Some n) P both = refl
standing-node None P both = absurd both

module _ (st : State) (k : Store) (kept : IsOf st k) (s : StripeNo) (f : Fragment) where
  taken-known : (seat : Seat) → Contains (taken_seats st) seat → IsKnown k seat
  taken-known seat here = subst (λ (t : Slots). IsSome (node_at t.nodes seat.node)) (sym kept.table_is)
      (standing-node (node_at k.topology seat.node) _ (All-contains (IsStanding k.topology st) (taken_seats st) seat kept.seated.standing here))

  pub home-known : (o : Option Seat) → (stored_in k.stripes).homes s f.value ≡ o → IfSome o (IsKnown k)
  home-known None e = tt
  home-known (Some seat) e =
      let home = home-kept st k kept s f seat e in
      subst (IsKnown k) home.2 (taken-known home.0.seat (home-seat st home.0 (found-home st s f.value home.0 home.1).0))

  pub target-known : (o : Option Lease) → (leased_in k.leases).leases s f.value ≡ o → IfSome (option_map (λ (l : Lease). l.target) o) (IsKnown k)
  target-known None e = tt
  target-known (Some l) e =
      let live = sym (lease-kept st k kept s f) ∙ e in
      taken-known l.target (target-seat st l (there-lease k.topology st s f l live kept.seated).0)
