-- The stored nodes, and the stripes with a home on each.
use Rattle.std.specs.Prelude.{◌≡◌, ◌≢◌, ℕ, ◌<◌, ◌≤◌, Bool, true, false, List, [], map, get_or, length, Option, Some, None, is_some, not, ◌&&◌, nat_lt, count_by}
use Rattle.std.specs.List.{All, AllPairs, list_any}
use Rattle.lrc_code.specs.declared.numbers.StripeNo.{StripeNo}
use Rattle.lrc_code.specs.declared.numbers.NodeNo.{NodeNo}
use Rattle.lrc_topology.specs.declared.NodeInfo.{NodeInfo}
use Rattle.lrc_nodes.specs.declared.node_state.NodeState.{NodeState}
use Rattle.lrc_nodes.specs.States.{first_state, infos_in, numbers_in, node_position, online_in, up_in, draining_in}
use Rattle.lrc_ranks.specs.Sets.{has}
use Rattle.lrc_topology.specs.Nodes.{node_at}
use Rattle.lrc_code.specs.declared.numbers.UpgradeNo.{UpgradeNo}
use Rattle.lrc_code.specs.Numbers.{same_node, same_upgrade}
use Rattle.std.specs.Option.{option_map_or}

-- one of the nodes has the number
abbrev pub has_node : List NodeInfo → NodeNo → Bool
has_node nodes n = is_some (node_at nodes n)

-- (internal) the node of this number is in the upgrade domain
abbrev pub is_in_domain : List NodeInfo → UpgradeNo → NodeNo → Bool
is_in_domain nodes u n = option_map_or (λ m. same_upgrade m.upgrade u) (node_at nodes n) false

-- the set of upgrade domains has those whose nodes are upgrading
pub record AreUpgrading (states : List NodeState) (upgrading : List Bool) : Type 0 where
  pub long : length upgrading ≡ 256
  pub each : All (λ x. x.is_upgrading ≡ get_or upgrading x.node.upgrade.value false) states

-- The nodes in the order of the file with their states; the nodes alone, those that are online, those that are up and those that are
-- draining, which follow from it; and the stripes with a home on each.
pub record NodeStates : Type 0 where
  pub list : List NodeState
  pub nodes : List NodeInfo
  pub online : NodeNo → Bool
  pub up : NodeNo → Bool
  pub draining : NodeNo → Bool
  pub on : NodeNo → StripeNo → Bool

-- the nodes at first
abbrev pub first_states : List NodeInfo → NodeStates
first_states nodes = record { list = map first_state nodes; nodes = nodes; online = has_node nodes; up = has_node nodes; draining = λ n. false; on = λ n s. false }

-- the stored nodes, and in the same order the stripes with a home on each
pub record NodeLists : Type 0 where
  pub list : List NodeState
  pub stripes : List (List Bool)

-- the nodes and stripes that the lists represent
unfoldable pub states_in : NodeLists → NodeStates
states_in t = record {
  list = t.list;
  nodes = infos_in t.list;
  online = online_in t.list;
  up = up_in t.list;
  draining = draining_in t.list;
  on = λ n. has (get_or t.stripes (node_position t.list n) []);
}

-- (internal) there is a set for each node, and the numbers of the nodes differ
pub record AreNodes (states : List NodeState) (sets : List (List Bool)) : Type 0 where
  pub long : length sets ≡ length states
  pub apart : AllPairs (λ m n. m.value ≢ n.value) (numbers_in states)

-- (internal) the result of a look-up: the position of the node, or none if no node has the number
abbrev pub IsPositionOf : NodeLists → NodeNo → Option ℕ → Type 0
IsPositionOf t n None = (length t.list ≤ node_position t.list n) × (length t.stripes ≡ length t.list)
IsPositionOf t n (Some p) = (p ≡ node_position t.list n) × (p < length t.list) × (length t.stripes ≡ length t.list)

-- the number of these nodes that are not up and have a home of the stripe
abbrev pub down_among : NodeStates → StripeNo → List NodeInfo → ℕ
down_among states s nodes = count_by (λ n. not (states.up n.number) && states.on n.number s) nodes

-- several nodes are not up and have a home of the stripe
abbrev pub is_on_several_down : NodeStates → StripeNo → Bool
is_on_several_down states s = nat_lt 1 (down_among states s states.nodes)
