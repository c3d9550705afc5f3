-- What is answered of a state, read off what a book keeps.
use Rattle.std.proofs.Common.{◌≡◌, true, false, List, Option, Some, None, IsSome, option_map, sym, ap, ◌∙◌, refl}
use Rattle.std.proofs.lemmas.Option.{same_Some}
use Rattle.std.specs.Option.{option_map_or}
use Rattle.lrc_code.specs.declared.numbers.NodeNo.{NodeNo}
use Rattle.lrc_topology.specs.declared.NodeInfo.{NodeInfo}
use Rattle.lrc_topology.specs.Nodes.{AreNodes, node_at}
use Rattle.lrc_slots.specs.Slots.{Slots, load_at, taken_count}
use Rattle.lrc_slots.specs.Tables.{slots_of}
use Rattle.lrc_store.specs.declared.store.Store.{Store}
use Rattle.lrc_store.specs.Stores.{IsOf}
use Rattle.lrc_rules.specs.States.{State, taken_seats, load, load_shown}
use Rattle.lrc_rules.specs.Goodness.{AreSeated}
use Rattle.lrc_bars.specs.Ties.{table_of}
use Rattle.lrc_rules.proofs.NodeLemmas.{node_at-member, member-node_at}
use Rattle.lrc_bars.proofs.TieLemmas.{load-seats, standing-slots}

-- the load of a node is the count of the table
pub load-shown : (nodes : List NodeInfo) (st : State) (n : NodeNo) (m : NodeInfo) → AreNodes nodes → AreSeated nodes st → node_at nodes n ≡ Some m → Some (load_at (table_of nodes st) n) ≡ load_shown nodes st n
load-shown nodes st n m known seated found =
    let here = member-node_at nodes n m found in
    ap (λ (o : Option NodeInfo). Some (option_map_or (taken_count (table_of nodes st)) o 0)) found
    ∙ ap Some (load-seats nodes (taken_seats st) m (node_at-member nodes known m here.0) seated.single (standing-slots nodes st (taken_seats st) seated.standing))
    ∙ sym (ap (option_map _) found)

-- the load of a known node is what the table counts
pub load-kept : (st : State) (k : Store) → IsOf st k → (n : NodeNo) → IsSome (node_at k.topology n) → load_at (slots_of k.table) n ≡ load st n
load-kept st k kept n there = ap (λ (t : Slots). load_at t n) kept.table_is ∙ by (node_at k.topology n) refl there where
  by : (o : Option NodeInfo) → node_at k.topology n ≡ o → IsSome o → load_at (table_of k.topology st) n ≡ load st n
  by (Some m) found known =
      same_Some (load_at (table_of k.topology st) n) (load st n)
      (load-shown k.topology st n m kept.known kept.seated found ∙ ap (option_map (λ (x : NodeInfo). load st x.number)) found
      ∙ ap (λ (x : NodeNo). Some (load st x)) (sym (member-node_at k.topology n m found).1))
  by None found known = absurd (let never : false ≡ true = known in cc)
