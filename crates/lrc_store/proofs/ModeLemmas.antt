-- How the slot table and the stored stripes follow the state of a node.
use Rattle.std.proofs.Common.{◌≡◌, Bool, true, false, not, if◌then◌else◌, ◌&&◌, eqb, List, Option, Some, None, IsSome, refl, sym, ap, ap₂, ◌∙◌, subst}
use Rattle.std.proofs.Math.Path.{fun_ext}
use Rattle.std.specs.Option.{option_map_or}
use Rattle.std.proofs.lemmas.Bool.{eqb-true}
use Rattle.lrc_code.specs.declared.numbers.NodeNo.{NodeNo}
use Rattle.lrc_code.specs.Numbers.{same_node}
use Rattle.lrc_code.proofs.NumbersLemmas.{equal_nodes}
use Rattle.lrc_topology.specs.declared.NodeInfo.{NodeInfo}
use Rattle.lrc_topology.specs.Nodes.{node_at}
use Rattle.lrc_slots.specs.Slots.{Slots, with_eligible}
use Rattle.lrc_slots.specs.Tables.{slots_of}
use Rattle.lrc_slots.specs.Tables as slots
use Rattle.lrc_nodes.specs.declared.node_state.NodeState.{NodeState}
use Rattle.lrc_stripes.specs.Stored.{Stored}
use Rattle.lrc_stripes.specs.Stored as stored
use Rattle.lrc_stripes.specs.Tables.{stored_in}
use Rattle.lrc_stripes.specs.Tables as tables
use Rattle.lrc_terms.specs.declared.mode.Mode.{Mode}
use Rattle.lrc_terms.specs.declared.mode.Mode.TheVariants.{Active, Draining, Gone}
use Rattle.lrc_terms.specs.Modes.{is_active, is_gone}
use Rattle.lrc_rules.specs.States.{State, mode_of, is_down, takes_seats}
use Rattle.lrc_rules.specs.Steps.{without_upgrading}
use Rattle.lrc_rules.specs.Goodness.{AreSeated}
use Rattle.lrc_rules.proofs.NodeLemmas.{member-node_at}
use Rattle.lrc_rules.proofs.NodeCommandLemmas.{IsAsItWas}
use Rattle.lrc_rules.proofs.JoinedLemmas.{NoneBoth}
use Rattle.lrc_store.specs.declared.store.Store.{Store}
use Rattle.lrc_store.specs.Stores.{IsOf, stored_of}
use Rattle.lrc_bars.specs.Ties.{kept_table}
use Rattle.lrc_store.proofs.NodeStateLemmas.{state-set}

-- ---- a node whose mode was changed

-- a node that is found
some-node : (o : Option NodeInfo) → IsSome o → (n : NodeInfo) × (o ≡ Some n)
some-node (Some n) there = (n, refl)
some-node None there = absurd (let never : false ≡ true = there in cc)

-- an active node is not gone
active-takes : (m : Mode) (down : Bool) → (is_active m && not down) ≡ (is_active m && (not (is_gone m) && (not down && not false)))
active-takes Active true = refl
active-takes Active false = refl
active-takes Draining down = refl
active-takes Gone down = refl

-- the state with these nodes gone, draining and down
module _ (nodes : List NodeInfo) (n : NodeNo) (was : State) (gone draining down : List NodeNo) where
  abbrev st : State
  st = record was { gone = gone; draining = draining; down = down }

  -- the other nodes are as they were
  module _ (others : (m : NodeNo) → same_node n m ≡ false → IsAsItWas was m st) where
    -- the node takes seats, but for upgrades, where it is active and not down
    takes-here : IsSome (node_at nodes n) → (is_active (mode_of st n) && not (is_down st n)) ≡ option_map_or (takes_seats (without_upgrading st)) (node_at nodes n) true
    takes-here there =
        let row = some-node (node_at nodes n) there in
        let number = (member-node_at nodes n row.0 row.1).1 in
        subst (λ (o : Option NodeInfo). (is_active (mode_of st n) && not (is_down st n)) ≡ option_map_or (takes_seats (without_upgrading st)) o true) (sym row.1)
        (ap (λ (m : NodeNo). is_active (mode_of st m) && not (is_down st m)) number
        ∙ active-takes (mode_of st row.0.number) (is_down st row.0.number))

    takes-there : (x : NodeInfo) → same_node n x.number ≡ false → takes_seats (without_upgrading was) x ≡ takes_seats (without_upgrading st) x
    takes-there x other = let same = others x.number other in rw (same.gone, same.draining, same.down) refl

    eligible-at : IsSome (node_at nodes n) → (m : NodeNo) → (if same_node n m then is_active (mode_of st n) && not (is_down st n) else option_map_or (takes_seats (without_upgrading was)) (node_at nodes m) true)
        ≡ option_map_or (takes_seats (without_upgrading st)) (node_at nodes m) true
    eligible-at there m = by (eqb n.value m.value) refl where
      other : (o : Option NodeInfo) → eqb n.value m.value ≡ false → node_at nodes m ≡ o → option_map_or (takes_seats (without_upgrading was)) o true ≡ option_map_or (takes_seats (without_upgrading st)) o true
      other (Some x) apart e = takes-there x (ap (λ (k : NodeNo). eqb n.value k.value) (sym (member-node_at nodes m x e).1) ∙ apart)
      other None apart e = refl

      by : (same : Bool) → eqb n.value m.value ≡ same → (if same then is_active (mode_of st n) && not (is_down st n) else option_map_or (takes_seats (without_upgrading was)) (node_at nodes m) true)
          ≡ option_map_or (takes_seats (without_upgrading st)) (node_at nodes m) true
      by true is = takes-here there ∙ ap (λ (k : NodeNo). option_map_or (takes_seats (without_upgrading st)) (node_at nodes k) true) (equal_nodes n m (eqb-true n.value m.value is))
      by false is = other (node_at nodes m) is refl

    -- the table follows
    table-set : IsSome (node_at nodes n) → with_eligible (kept_table nodes was) n (is_active (mode_of st n) && not (is_down st n)) ≡ kept_table nodes st
    table-set there = ap (λ (eligible : NodeNo → Bool). record (kept_table nodes was) { eligible = eligible }) (fun_ext (eligible-at there))

    -- and so do the stripes
    stored-set : (mode : Mode) (b : Bool) → mode ≡ mode_of st n → b ≡ is_down st n → stored.with_state (stored_of nodes was) n mode b ≡ stored_of nodes st
    stored-set mode b mode_is down_is =
        ap (λ (list : List NodeState). record (stored_of nodes was) { nodes = list })
        (state-set was st n mode b mode_is down_is refl (λ m same. equal_nodes n m (eqb-true n.value m.value same))
        (λ m other. let same = others m other in (rw (same.gone, same.draining) refl, same.down)) nodes)

-- with all told, what is kept is that of the state
pub state-kept : (n : NodeNo) (was : State) (gone draining down : List NodeNo) (k : Store) → IsOf was k
    → (let st = record was { gone = gone; draining = draining; down = down } in AreSeated k.topology st → NoneBoth st → IsSome (node_at k.topology n)
    → ((m : NodeNo) → same_node n m ≡ false → IsAsItWas was m st) → (mode : Mode) (b : Bool) → mode ≡ mode_of st n → b ≡ is_down st n
    → (table : slots.Table) (stripes : tables.Table) → slots_of table ≡ with_eligible (slots_of k.table) n (is_active mode && not b) → stored_in stripes ≡ stored.with_state (stored_in k.stripes) n mode b
    → IsOf st (record k { table = table; stripes = stripes }))
state-kept n was gone draining down k kept seated apart there others mode b mode_is down_is table stripes set set_too =
    let st : State = record was { gone = gone; draining = draining; down = down } in
    record {
      known = kept.known;
      seated = seated;
      apart = apart;
      table_is = set ∙ ap₂ (λ (t : Slots) (c : Bool). with_eligible t n c) kept.table_is (ap₂ (λ (m : Mode) (d : Bool). is_active m && not d) mode_is down_is)
          ∙ table-set k.topology n was gone draining down others there;
      stripes_is = set_too ∙ ap (λ (t : Stored). stored.with_state t n mode b) kept.stripes_is ∙ stored-set k.topology n was gone draining down others mode b mode_is down_is;
      leases_is = kept.leases_is;
      upgrading_is = kept.upgrading_is;
      domains_are = kept.domains_are;
      clock_is = kept.clock_is;
    }
