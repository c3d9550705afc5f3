-- Internal: no public clause reaches these definitions.
-- The rows of a table, and what one row says by itself.
use Rattle.std.specs.Prelude.{◌≡◌, ℕ, ◌≤◌, Bool, true, false, List, [], ◌∷◌, length, take, replicate, Option}
use Rattle.std.specs.List.{position}
use Rattle.lrc_code.specs.declared.numbers.NodeNo.{NodeNo}
use Rattle.lrc_topology.specs.declared.NodeInfo.{NodeInfo}
use Rattle.lrc_topology.specs.Seats.{is_lighter}
use Rattle.lrc_slots.specs.Slots.{Slots, taken_count}
use Rattle.lrc_slots.specs.Barred.{Barred}
use Rattle.lrc_slots.specs.Next.{may_take}
use Rattle.lrc_slots.specs.Tables.{Row, Table, is_of, is_marked}

-- the position of a node's row
abbrev pub position_of : Table → NodeNo → Option ℕ
position_of rows n = position (is_of n) rows

-- the row of a node, whose slots are the first of these marks
abbrev pub row_of : NodeInfo → Bool → List Bool → Row
row_of node eligible marks = record { node = node; eligible = eligible; taken = take node.slots marks }

-- marks of a node's slots; marks after the last slot do not count
pub record AreMarks (node : NodeInfo) (marks : List Bool) : Type 0 where
  pub few : node.slots ≤ 256
  pub all : length marks ≡ 256

-- the row of an eligible node with all slots free
abbrev pub fresh_row : NodeInfo → Row
fresh_row node = record { node = node; eligible = true; taken = replicate node.slots false }

-- one row as a table of its own
abbrev pub alone : Row → Slots
alone r = record { nodes = r.node ∷ []; eligible = λ n. r.eligible; taken = λ n k. is_marked r k }

-- the load of a row: the number of its taken slots
abbrev pub row_load : Row → ℕ
row_load r = taken_count (alone r) r.node

-- the row's node may take a seat
abbrev pub is_open : Barred → Row → Bool
is_open b r = may_take (alone r) b r.node

-- the node of the first row is preferred to that of the second
abbrev pub precedes : Row → Row → Bool
precedes r s = is_lighter (taken_count (alone r) r.node) r.node.number (taken_count (alone s) s.node) s.node.number
