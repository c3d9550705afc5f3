-- The kept slot table, with the upgrading domain barred, gives what the table of the state gives.
use Rattle.std.proofs.Common.{◌≡◌, Bool, true, false, not, ◌&&◌, ◌||◌, List, Option, Some, None, option_map, option_and_then, is_some, refl, sym, ap, ◌∙◌}
use Rattle.std.specs.Option.{option_map_or}
use Rattle.std.proofs.lemmas.List.Elements.{All-weaker}
use Rattle.lrc_code.specs.declared.numbers.NodeNo.{NodeNo}
use Rattle.lrc_code.specs.declared.numbers.UpgradeNo.{UpgradeNo}
use Rattle.lrc_code.specs.Numbers.{same_upgrade}
use Rattle.lrc_code.specs.Order.{least}
use Rattle.lrc_topology.specs.declared.NodeInfo.{NodeInfo}
use Rattle.lrc_topology.specs.Nodes.{AreNodes, node_at}
use Rattle.lrc_topology.specs.Seats.{free_slot}
use Rattle.lrc_slots.specs.Slots.{least_free_at}
use Rattle.lrc_slots.specs.Barred.{Barred}
use Rattle.lrc_slots.specs.Next.{may_take, is_chosen_before, next_node}
use Rattle.lrc_terms.specs.Modes.{is_active, is_gone}
use Rattle.lrc_rules.specs.States.{State, mode_of, is_down, taken_seats}
use Rattle.lrc_rules.specs.Goodness.{AreSeated}
use Rattle.lrc_bars.specs.Ties.{table_of, next_seat, kept_table, closed}
use Rattle.lrc_rules.specs.Steps.{without_upgrading}
use Rattle.lrc_rules.proofs.MemberLemmas.{All-members}
use Rattle.lrc_rules.proofs.NodeLemmas.{node_at-member}
use Rattle.lrc_bars.proofs.PlanLemmas.{filter-agree}
use Rattle.lrc_rules.proofs.SeatedLemmas.{upgrading-seated}
use Rattle.lrc_bars.proofs.TieLemmas.{may_take-eligible}
use Rattle.lrc_rules.proofs.LookUpLemmas.{test-sym}

-- the stripes are seated also were no domain upgrading
pub settled-seated : (nodes : List NodeInfo) (st : State) → AreSeated nodes st → AreSeated nodes (without_upgrading st)
settled-seated nodes st seated = upgrading-seated nodes st None seated

-- a node that takes seats but for its domain e takes none where the domain is barred
closed-test : (a g d r f w e : Bool) → (((a && (g && (d && not false))) && r) && not (f || (w || e)))
    ≡ (((a && (g && (d && not e))) && r) && not (f || w))
closed-test false g d r f w e = refl
closed-test true false d r f w e = refl
closed-test true true false r f w e = refl
closed-test true true true false f w false = refl
closed-test true true true false f w true = refl
closed-test true true true true true w false = refl
closed-test true true true true true w true = refl
closed-test true true true true false true false = refl
closed-test true true true true false true true = refl
closed-test true true true true false false false = refl
closed-test true true true true false false true = refl

module _ (nodes : List NodeInfo) (st : State) (b : Barred) where
  -- the nodes of the upgrading domain are barred instead of being set aside
  closed-by : (n : NodeInfo) (u : Option UpgradeNo) (a g d r : Bool)
      → (((a && (g && (d && not false))) && r) && not ((closed u b).faults n.fault || (closed u b).upgrades n.upgrade))
      ≡ (((a && (g && (d && not (option_map_or (λ v. same_upgrade v n.upgrade) u false)))) && r)
      && not (b.faults n.fault || b.upgrades n.upgrade))
  closed-by n None a g d r = refl
  closed-by n (Some v) a g d r =
      ap (λ (e : Bool). ((a && (g && (d && not false))) && r) && not (b.faults n.fault || (b.upgrades n.upgrade || e)))
      (test-sym n.upgrade.value v.value)
      ∙ closed-test a g d r (b.faults n.fault) (b.upgrades n.upgrade) (same_upgrade v n.upgrade)

  closed-take : (n : NodeInfo) → node_at nodes n.number ≡ Some n
      → may_take (kept_table nodes st) (closed st.upgrading b) n ≡ may_take (table_of nodes st) b n
  closed-take n found =
      may_take-eligible nodes (without_upgrading st) (closed st.upgrading b) n found
      ∙ closed-by n st.upgrading (is_active (mode_of st n.number)) (not (is_gone (mode_of st n.number))) (not (is_down st n.number))
      (is_some (free_slot (taken_seats st) n))
      ∙ sym (may_take-eligible nodes st b n found)

  -- so the next node is the same
  pub closed-next : AreNodes nodes → next_node (kept_table nodes st) (closed st.upgrading b) ≡ next_node (table_of nodes st) b
  closed-next known =
      ap (λ xs. least (is_chosen_before (table_of nodes st)) xs)
      (filter-agree (may_take (kept_table nodes st) (closed st.upgrading b)) (may_take (table_of nodes st) b) nodes
      (All-weaker (λ n. node_at nodes n.number ≡ Some n)
      (λ n. may_take (kept_table nodes st) (closed st.upgrading b) n ≡ may_take (table_of nodes st) b n)
      closed-take nodes (All-members (λ n. node_at nodes n.number ≡ Some n) nodes (node_at-member nodes known))))

  -- and the next seat
  pub closed-seat : AreNodes nodes → next_seat (kept_table nodes st) (closed st.upgrading b) ≡ next_seat (table_of nodes st) b
  closed-seat known =
      ap (λ (o : Option NodeInfo). option_and_then
      (λ (n : NodeNo). option_map (λ slot. record { node = n; slot = slot }) (least_free_at (table_of nodes st) n))
      (option_map (λ n. n.number) o)) (closed-next known)
