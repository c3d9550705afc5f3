-- Which nodes of a list are in barred domains, by ordinal.
use Rattle.std.specs.Prelude.{◌≡◌, ℕ, Bool, false, ◌||◌, nat_lt, List, count_by, get_or, All}
use Rattle.lrc_topology.specs.declared.NodeInfo.{NodeInfo}
use Rattle.lrc_slots.specs.Barred.{Barred}

-- the ordinal of a node: the number of nodes with a lower number
abbrev pub ordinal_of : List NodeInfo → NodeInfo → ℕ
ordinal_of nodes n = count_by (λ m. nat_lt m.number.value n.number.value) nodes

-- the list holds for the ordinal of each node whether the node is in a barred domain
abbrev pub AreBarredNodes : List NodeInfo → Barred → List Bool → Type 0
AreBarredNodes nodes b by_ordinal = All (λ n. get_or by_ordinal (ordinal_of nodes n) false ≡ (b.faults n.fault || b.upgrades n.upgrade)) nodes
