-- The nodes of a store with their states, in the order of the topology.
use Rattle.std.specs.Prelude.{ℕ, suc, Bool, false, not, ◌&&◌, if◌then◌else◌, List, [], ◌∷◌, map, find, Option}
use Rattle.std.specs.Option.{option_map_or}
use Rattle.lrc_code.specs.declared.numbers.NodeNo.{NodeNo}
use Rattle.lrc_code.specs.declared.numbers.UpgradeNo.{UpgradeNo}
use Rattle.lrc_code.specs.Numbers.{same_node, same_upgrade}
use Rattle.lrc_topology.specs.declared.NodeInfo.{NodeInfo}
use Rattle.lrc_terms.specs.declared.mode.Mode.{Mode}
use Rattle.lrc_terms.specs.declared.mode.Mode.TheVariants.{Active}
use Rattle.lrc_terms.specs.Modes.{is_gone, is_draining}
use Rattle.lrc_nodes.specs.declared.node_state.NodeState.{NodeState}

-- a node at first
abbrev pub first_state : NodeInfo → NodeState
first_state n = record { node = n; mode = Active; is_down = false; is_upgrading = false }

-- the node is up: neither gone nor down
abbrev pub is_node_up : NodeState → Bool
is_node_up x = not (is_gone x.mode) && not x.is_down

-- the node is online: not gone, not down, and its upgrade domain is not upgrading
abbrev pub is_node_online : NodeState → Bool
is_node_online x = not (is_gone x.mode) && (not x.is_down && not x.is_upgrading)

-- the node is offline: not online
abbrev pub is_node_offline : NodeState → Bool
is_node_offline x = not (is_node_online x)

-- the node is draining
abbrev pub is_node_draining : NodeState → Bool
is_node_draining x = is_draining x.mode

-- the nodes without their states
abbrev pub infos_in : List NodeState → List NodeInfo
infos_in states = map (λ x. x.node) states

-- the numbers of the nodes
abbrev pub numbers_in : List NodeState → List NodeNo
numbers_in states = map (λ x. x.node.number) states

-- the node with a number
abbrev pub state_at : List NodeState → NodeNo → Option NodeState
state_at states n = find (λ x. same_node n x.node.number) states

-- the node with a number is down; false if there is none
abbrev pub down_in : List NodeState → NodeNo → Bool
down_in states n = option_map_or (λ x. x.is_down) (state_at states n) false

-- the node with a number is up; false if there is none
abbrev pub up_in : List NodeState → NodeNo → Bool
up_in states n = option_map_or is_node_up (state_at states n) false

-- the node with a number is online; false if there is none
abbrev pub online_in : List NodeState → NodeNo → Bool
online_in states n = option_map_or is_node_online (state_at states n) false

-- the node with a number is draining; false if there is none
abbrev pub draining_in : List NodeState → NodeNo → Bool
draining_in states n = option_map_or is_node_draining (state_at states n) false

-- the node with a number has this mode, and is down or not, as set
abbrev pub with_state : List NodeState → NodeNo → Mode → Bool → List NodeState
with_state states n mode is_down =
    map {A = NodeState} {B = NodeState} (λ x. if same_node n x.node.number then record x { mode = mode; is_down = is_down } else x) states

-- the nodes of an upgrade domain are upgrading or not, as set
abbrev pub with_upgrading_in : List NodeState → UpgradeNo → Bool → List NodeState
with_upgrading_in states u b = map {A = NodeState} {B = NodeState} (λ x. if same_upgrade x.node.upgrade u then record x { is_upgrading = b } else x) states

-- the position of the node with a number, or the length if there is none
abbrev pub node_position : List NodeState → NodeNo → ℕ
node_position [] n = 0
node_position (x ∷ states) n = if same_node n x.node.number then 0 else suc (node_position states n)
