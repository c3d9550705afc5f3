-- Statuses by their names.
use Rattle.std.specs.Prelude.{◌≡◌, ℕ, ◌≤◌, List, [], ◌∷◌, ◌⊎◌}
use Rattle.lrc_topology.specs.declared.error.TopologyError.{TopologyError}
use Rattle.lrc_topology.specs.declared.error.TopologyError.TheVariants as topology
use Rattle.lrc_embed.specs.declared.status.TheConstants.{OUT_OF_MEMORY, SYNTAX, NO_NODES, BAD_FIELD}
use Rattle.lrc_embed.specs.declared.status.TheConstants.{NODE_OUT_OF_RANGE, DOUBLE_NODE, TOO_MANY}

-- the status is one of these
abbrev pub IsOneOf : ℕ → List ℕ → Type 0
IsOneOf status [] = ⊥
IsOneOf status (only ∷ []) = status ≡ only
IsOneOf status (first ∷ next ∷ others) = (status ≡ first) ⊎ IsOneOf status (next ∷ others)

-- the status of a refused topology, and its position, its number or 0
abbrev pub topology_status : TopologyError → ℕ × ℕ
topology_status topology.Syntax = (SYNTAX, 0)
topology_status topology.NoNodes = (NO_NODES, 0)
topology_status (topology.BadField p) = (BAD_FIELD, p)
topology_status (topology.OutOfRange p) = (NODE_OUT_OF_RANGE, p)
topology_status (topology.DoubleNode n) = (DOUBLE_NODE, n.value)
topology_status topology.TooMany = (TOO_MANY, 0)
topology_status topology.OutOfMemory = (OUT_OF_MEMORY, 0)

-- the status is that of a refused topology, memory aside
abbrev pub IsTopologyStatus : ℕ → Type 0
IsTopologyStatus status = (SYNTAX ≤ status) × (status ≤ TOO_MANY)
