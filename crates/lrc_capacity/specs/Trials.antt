-- Internal: no public clause reaches these definitions.
-- The same count by what is read of each node, as the code makes it.
use Rattle.std.specs.Prelude.{ℕ, zero, suc, ◌+◌, ◌-◌, Bool, not, ◌&&◌, if◌then◌else◌, nat_lt}
use Rattle.std.specs.Prelude.{List, [], ◌∷◌, ◌++◌, map, filter, fold, count_by, sum_by, Option, Some, None, is_some}
use Rattle.std.specs.List.{list_any}
use Rattle.lrc_code.specs.declared.codes.Code.{Code}
use Rattle.lrc_code.specs.declared.numbers.NodeNo.{NodeNo}
use Rattle.lrc_code.specs.declared.numbers.Fragment.{Fragment}
use Rattle.lrc_code.specs.Numbers.{same_fragment, same_node, same_fault}
use Rattle.lrc_code.specs.Codes.{fragments}
use Rattle.lrc_code.specs.Order.{least}
use Rattle.lrc_topology.specs.declared.NodeInfo.{NodeInfo}
use Rattle.lrc_topology.specs.Seats.{is_lighter}
use Rattle.lrc_rules.specs.Placement.{clashes}
use Rattle.lrc_capacity.specs.declared.room.NodeRoom.{NodeRoom}
use Rattle.lrc_capacity.specs.declared.room.Placed.{Placed}
use Rattle.lrc_capacity.specs.declared.shortage.Shortage.{Shortage}
use Rattle.lrc_capacity.specs.declared.capacity.Capacity.{Capacity}

-- ---- the choice of a node

abbrev pub is_lighter_room : NodeRoom → NodeRoom → Bool
is_lighter_room r o = is_lighter r.load r.node.number o.load o.node.number

abbrev pub can_seat : NodeRoom → Bool
can_seat r = (r.is_active && r.is_online) && nat_lt r.load r.node.slots

abbrev pub rules_out : Code → Fragment → NodeInfo → Placed → Bool
rules_out code f n p = not (same_fragment p.fragment f) && clashes code f n p.fragment p.node

abbrev pub may_go : Code → Fragment → List Placed → NodeRoom → Bool
may_go code f beside r = can_seat r && not (list_any (rules_out code f r.node) beside)

abbrev pub chosen_room : Code → Fragment → List Placed → List NodeRoom → Option NodeRoom
chosen_room code f beside rooms = least is_lighter_room (filter (may_go code f beside) rooms)

abbrev pub one_more_on : NodeNo → NodeRoom → NodeRoom
one_more_on n r = if same_node r.node.number n && nat_lt r.load r.node.slots then record r { load = r.load + 1 } else r

-- ---- a stripe

-- what is read of the nodes, the fragments that are placed, and the first that found no node
pub record Trial : Type 0 where
  pub rooms : List NodeRoom
  pub beside : List Placed
  pub refused : Option Fragment

abbrev pub with_room : Trial → Fragment → Option NodeRoom → Trial
with_room t f (Some r) = record {
  rooms = map (one_more_on r.node.number) t.rooms;
  beside = t.beside ++ record { fragment = f; node = r.node } ∷ [];
  refused = None;
}
with_room t f None = record t { refused = Some f }

abbrev pub try_next : Code → Trial → Fragment → Trial
try_next code t f = if is_some t.refused then t else with_room t f (chosen_room code f t.beside t.rooms)

abbrev pub trial_of : Code → Trial → List Fragment → Trial
trial_of code t fs = fold (try_next code) t fs

unfoldable pub trial : Code → List NodeRoom → Trial
trial code rooms = trial_of code (record { rooms = rooms; beside = []; refused = None }) (fragments code)

-- ---- why a fragment has no node

abbrev pub is_beside_in : Fragment → NodeInfo → Placed → Bool
is_beside_in f n p = not (same_fragment p.fragment f) && same_fault n.fault p.node.fault

abbrev pub lacks_slot : NodeRoom → Bool
lacks_slot r = (r.is_active && r.is_online) && not (nat_lt r.load r.node.slots)

abbrev pub lacks_upgrade : Code → Fragment → List Placed → NodeRoom → Bool
lacks_upgrade code f beside r =
    (can_seat r && not (list_any (is_beside_in f r.node) beside)) && list_any (rules_out code f r.node) beside

abbrev pub shortage_in : Code → Fragment → List Placed → List NodeRoom → Shortage
shortage_in code f beside rooms = record {
  fragment = f;
  not_active = count_by (λ r. not r.is_active) rooms;
  offline = count_by (λ r. r.is_active && not r.is_online) rooms;
  full = count_by lacks_slot rooms;
  fault_domain = count_by (λ r. can_seat r && list_any (is_beside_in f r.node) beside) rooms;
  upgrade_domain = count_by (lacks_upgrade code f beside) rooms;
}

-- ---- stripes until the first refusal

abbrev pub free_on : NodeRoom → ℕ
free_on r = if r.is_active && r.is_online then r.node.slots - r.load else 0

abbrev pub free_in : List NodeRoom → ℕ
free_in rooms = sum_by free_on rooms

-- so many were placed; this is what is read then, and after one more is tried; and how it goes on
abbrev pub filled_by : Code → ℕ → List NodeRoom → Trial → Option Fragment → (List NodeRoom → Capacity) → Capacity
filled_by code count rooms t (Some f) more = record {
  stripes = count;
  shortage = Some (shortage_in code f t.beside t.rooms);
  free_slots = free_in rooms;
}
filled_by code count rooms t None more = more t.rooms

abbrev pub filled : Code → ℕ → List NodeRoom → ℕ → Capacity
filled code count rooms zero = record { stripes = count; shortage = None; free_slots = free_in rooms }
filled code count rooms (suc left) =
    filled_by code count rooms (trial code rooms) (trial code rooms).refused (λ after. filled code (count + 1) after left)
