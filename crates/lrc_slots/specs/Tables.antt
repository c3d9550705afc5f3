-- A slot table and a set of barred domains, as contracts see them, and what they mean.
use Rattle.std.specs.Prelude.{ℕ, Bool, true, false, List, map, find, get_or, Option}
use Rattle.std.specs.Option.{option_map_or}
use Rattle.lrc_code.specs.declared.numbers.NodeNo.{NodeNo}
use Rattle.lrc_code.specs.Numbers.{same_node}
use Rattle.lrc_topology.specs.declared.NodeInfo.{NodeInfo}
use Rattle.lrc_slots.specs.Slots.{Slots}
use Rattle.lrc_slots.specs.Barred.{Barred}

-- a node of a table, whether it is eligible, and for each of its slots whether it is taken
pub record Row : Type 0 where
  pub node : NodeInfo
  pub eligible : Bool
  pub taken : List Bool

-- a table: one row for each node
abbrev pub Table : Type 0
Table = List Row

-- for each fault domain and each upgrade domain whether it is barred
pub record Bars : Type 0 where
  pub faults : List Bool
  pub upgrades : List Bool

-- the row is that of the node
abbrev pub is_of : NodeNo → Row → Bool
is_of n r = same_node n r.node.number

-- the row of a node
abbrev pub row_at : Table → NodeNo → Option Row
row_at rows n = find (is_of n) rows

-- a slot of a row is taken; no slot after the last is
abbrev pub is_marked : Row → ℕ → Bool
is_marked r k = get_or r.taken k false

-- What a table means. For a number that is not a node's, no slot is taken, and the test of eligible nodes holds.
unfoldable pub slots_of : Table → Slots
slots_of rows = record {
  nodes = map (λ r. r.node) rows;
  eligible = λ n. option_map_or (λ r. r.eligible) (row_at rows n) true;
  taken = λ n k. option_map_or (λ r. is_marked r k) (row_at rows n) false;
}

-- the domains that the lists bar
unfoldable pub barred : Bars → Barred
barred b = record { faults = λ d. get_or b.faults d.value false; upgrades = λ d. get_or b.upgrades d.value false }
