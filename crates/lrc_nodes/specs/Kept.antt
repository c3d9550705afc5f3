-- Internal: no public clause reaches these definitions.
-- The stored form of the nodes: sets of positions, one for each thing that a state says, one of the offline nodes, and one of the nodes of each upgrade domain; and a flag for each node number.
use Rattle.std.specs.Prelude.{◌≡◌, ◌≢◌, ℕ, suc, ◌<◌, ◌≤◌, Bool, ◌&&◌, ◌||◌, if◌then◌else◌, false, nat_lt, nat_eq, List, [], ◌∷◌, map, get_or, length}
use Rattle.std.specs.List.{AllPairs}
use Rattle.lrc_code.specs.declared.numbers.NodeNo.{NodeNo}
use Rattle.lrc_topology.specs.declared.NodeInfo.{NodeInfo}
use Rattle.lrc_terms.specs.declared.mode.Mode.{Mode}
use Rattle.lrc_terms.specs.declared.mode.Mode.TheVariants.{Active, Draining, Gone}
use Rattle.lrc_nodes.specs.declared.node_state.NodeState.{NodeState}
use Rattle.lrc_nodes.specs.States.{up_in}

-- the positions of the nodes that are gone, of those that are draining, of those that are down, and of those that are upgrading
pub record StateBits : Type 0 where
  pub gone : List Bool
  pub draining : List Bool
  pub down : List Bool
  pub upgrading : List Bool

-- the mode of a node that is gone or not, and draining or not
abbrev pub mode_by : Bool → Bool → Mode
mode_by is_gone is_draining = if is_gone then Gone else (if is_draining then Draining else Active)

-- a node with its state by its bits
abbrev pub state_by : NodeInfo → Bool → Bool → Bool → Bool → NodeState
state_by n is_gone is_draining is_down is_upgrading = record { node = n; mode = mode_by is_gone is_draining; is_down = is_down; is_upgrading = is_upgrading }

-- a node with its state by the bits at a position
abbrev pub state_of : NodeInfo → StateBits → ℕ → NodeState
state_of n bits p = state_by n (get_or bits.gone p false) (get_or bits.draining p false) (get_or bits.down p false) (get_or bits.upgrading p false)

-- the nodes with their states by the bits from this position on
abbrev pub states_from : ℕ → List NodeInfo → StateBits → List NodeState
states_from k [] bits = []
states_from k (n ∷ nodes) bits = state_of n bits k ∷ states_from (suc k) nodes bits

-- there is a set for each upgrade domain, with the positions of its nodes among the first `count`
pub record AreDomains (nodes : List NodeInfo) (count : ℕ) (sets : List (List Bool)) : Type 0 where
  pub many : length sets ≡ 256
  pub long : (u : ℕ) → u < 256 → length (get_or sets u []) ≡ 512
  pub each : (u p : ℕ) (d : NodeInfo) → u < 256 → get_or (get_or sets u []) p false ≡ (nat_lt p count && nat_eq (get_or nodes p d).upgrade.value u)

-- the bits are 512, and none is set past the last node
pub record ArePositions (nodes : List NodeInfo) (bits : List Bool) : Type 0 where
  pub long : length bits ≡ 512
  pub past : (p : ℕ) → length nodes ≤ p → get_or bits p false ≡ false

-- the sets are of positions of the nodes, and no node is both gone and draining
pub record AreStates (nodes : List NodeInfo) (bits : StateBits) : Type 0 where
  pub gone : ArePositions nodes bits.gone
  pub draining : ArePositions nodes bits.draining
  pub down : ArePositions nodes bits.down
  pub upgrading : ArePositions nodes bits.upgrading
  pub one_mode : (p : ℕ) → (get_or bits.gone p false && get_or bits.draining p false) ≡ false

-- the offline nodes are those that are gone, down or upgrading
abbrev pub AreOffline : StateBits → List Bool → Type 0
AreOffline bits offline = (p : ℕ) → get_or offline p false ≡ (get_or bits.gone p false || (get_or bits.down p false || get_or bits.upgrading p false))

-- there is a flag for each node number: whether the store has the node and it is up
pub record AreUp (states : List NodeState) (up : List Bool) : Type 0 where
  pub long : length up ≡ 65536
  pub each : (n : NodeNo) → get_or up n.value false ≡ up_in states n

-- the numbers of the nodes differ, the sets are of positions of the nodes, and the offline nodes and the flags follow from the others
pub record AreKept (nodes : List NodeInfo) (numbers : List NodeNo) (bits : StateBits) (offline : List Bool) (domains : List (List Bool)) (up : List Bool) : Type 0 where
  pub found : numbers ≡ map (λ n. n.number) nodes
  pub apart : AllPairs (λ m n. m.value ≢ n.value) numbers
  pub few : length nodes ≤ 512
  pub states : AreStates nodes bits
  pub off : ArePositions nodes offline
  pub derived : AreOffline bits offline
  pub grouped : AreDomains nodes (length nodes) domains
  pub flagged : AreUp (states_from 0 nodes bits) up
