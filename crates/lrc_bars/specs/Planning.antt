-- The domains that are barred for the fragments of each class, while the seats of a stripe are planned.
use Rattle.std.specs.Prelude.{◌≡◌, ℕ, Bool, false, ◌&&◌, List, [], length, get_or, Option, Some}
use Rattle.std.specs.List.{list_any}
use Rattle.std.specs.Option.{option_map_or}
use Rattle.lrc_code.specs.declared.codes.Class.{Class}
use Rattle.lrc_code.specs.declared.codes.Class.TheVariants.{A, B, G}
use Rattle.lrc_code.specs.declared.codes.Code.{Code}
use Rattle.lrc_code.specs.declared.numbers.FaultNo.{FaultNo}
use Rattle.lrc_code.specs.declared.numbers.UpgradeNo.{UpgradeNo}
use Rattle.lrc_code.specs.Numbers.{same_fault, same_upgrade}
use Rattle.lrc_code.specs.Codes.{class_of, are_one_class}
use Rattle.lrc_topology.specs.declared.NodeInfo.{NodeInfo}
use Rattle.lrc_topology.specs.declared.seat.Seat.{Seat}
use Rattle.lrc_topology.specs.declared.seat.Held.{Held}
use Rattle.lrc_topology.specs.Nodes.{node_at}
use Rattle.lrc_slots.specs.Barred.{Barred}
use Rattle.lrc_slots.specs.BarredNodes.{AreBarredNodes}
use Rattle.lrc_slots.specs.declared.open_node.OpenRow.{OpenRow}
use Rattle.lrc_bars.specs.declared.class_bars.ClassBars.{ClassBars}
use Rattle.lrc_bars.specs.Ties.{closed}

-- the index of the nodes that are barred for the fragments of a class
abbrev pub index_of_class : Class → ℕ
index_of_class A = 0
index_of_class B = 1
index_of_class G = 2

-- the nodes whose upgrade domains are barred for the fragments of a class, as truth values by index
abbrev pub upgrades_for : ClassBars → Class → List Bool
upgrades_for b c = get_or b.upgrades (index_of_class c) []

-- the seat is on a node of the fault domain
abbrev pub is_in_fault : List NodeInfo → FaultNo → Held → Bool
is_in_fault nodes d h = option_map_or (λ m. same_fault d m.fault) (node_at nodes h.seat.node) false

-- the seat is of a fragment of the class, on a node of the upgrade domain
abbrev pub is_in_upgrade : List NodeInfo → Code → Class → UpgradeNo → Held → Bool
is_in_upgrade nodes code c d h =
    option_map_or (λ m. are_one_class (class_of code h.fragment.value) (Some c) && same_upgrade d m.upgrade) (node_at nodes h.seat.node) false

-- the fault domains that these seats bar for the other fragments of the stripe
abbrev pub fault_bars : List NodeInfo → List Held → Barred
fault_bars nodes seats = record { faults = λ d. list_any (is_in_fault nodes d) seats; upgrades = λ d. false }

-- the upgrade domains that they bar for the other fragments that are of the class
abbrev pub upgrade_bars : List NodeInfo → Code → Class → List Held → Barred
upgrade_bars nodes code c seats = record { faults = λ d. false; upgrades = λ d. list_any (is_in_upgrade nodes code c d) seats }

-- The barred nodes are those in the domains that these seats bar: in fault domains for all fragments, in upgrade domains for
-- each class. Those of the upgrading domain, if there is one, are barred for all fragments too.
pub record AreBarsOf (nodes : List NodeInfo) (code : Code) (upgrading : Option UpgradeNo) (seats : List Held) (b : ClassBars) : Type 0 where
  pub faults : AreBarredNodes nodes (closed upgrading (fault_bars nodes seats)) b.faults
  pub upgrades : (c : Class) → AreBarredNodes nodes (upgrade_bars nodes code c seats) (upgrades_for b c)
  pub classes : length b.upgrades ≡ 3

-- (internal) the seat that a node lent by the table and its least free slot are
abbrev pub row_seat : OpenRow → Seat
row_seat o = record { node = o.node.now.number; slot = o.slot }
