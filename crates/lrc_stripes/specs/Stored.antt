-- The stripes of a store: those that exist, the homes of their fragments, and the nodes with their states.
use Rattle.std.specs.Prelude.{◌≡◌, ◌≢◌, ℕ, ◌≤◌, Bool, false, not, ◌&&◌, ◌||◌, if◌then◌else◌, nat_lt, nat_eq, List, map, Option, Some, None, IsTrue, IsFalse, ◌↔◌}
use Rattle.std.specs.List.{Contains, AllPairs, slice_get}
use Rattle.std.specs.Option.{option_map_or}
use Rattle.lrc_code.specs.declared.codes.Code.{Code}
use Rattle.lrc_code.specs.declared.codes.Code.TheVariants.{Wide}
use Rattle.lrc_code.specs.declared.losses.LossMask.{LossMask}
use Rattle.lrc_code.specs.declared.numbers.StripeNo.{StripeNo}
use Rattle.lrc_code.specs.declared.numbers.Fragment.{Fragment}
use Rattle.lrc_code.specs.declared.numbers.NodeNo.{NodeNo}
use Rattle.lrc_code.specs.declared.numbers.UpgradeNo.{UpgradeNo}
use Rattle.lrc_code.specs.Numbers.{same_stripe, same_node}
use Rattle.lrc_topology.specs.declared.NodeInfo.{NodeInfo}
use Rattle.lrc_topology.specs.declared.seat.Seat.{Seat}
use Rattle.lrc_topology.specs.Nodes.{node_at}
use Rattle.lrc_terms.specs.declared.mode.Mode.{Mode}
use Rattle.lrc_terms.specs.declared.level.Level.{Level}
use Rattle.lrc_terms.specs.Levels.{Homes, missing_in, needs_in, homes_if, missing_if, needs_if, level_if, has_some, rank_by, comes_first, is_whole}
use Rattle.lrc_terms.specs.Stripes.{StripeFragment, StripeLevel, comes_before}
use Rattle.lrc_nodes.specs.declared.node_state.NodeState.{NodeState}
use Rattle.lrc_nodes.specs.States.{first_state, online_in, draining_in}
use Rattle.lrc_nodes.specs.States as node

-- The nodes in the order of the file, with their states; the stripes that exist, their codes and the homes of their fragments.
-- A stripe that does not exist counts as Wide.
pub record Stored : Type 0 where
  pub nodes : List NodeState
  pub stripes : StripeNo → Bool
  pub code : StripeNo → Code
  pub homes : StripeNo → Homes

-- no stripes, and every node is active, not down and not upgrading
abbrev pub empty : List NodeInfo → Stored
empty nodes = record {
  nodes = map first_state nodes;
  stripes = λ s. false;
  code = λ s. Wide;
  homes = λ s f. None;
}

-- one more stripe, of this code, none of whose fragments has a home
abbrev pub with_stripe : Stored → Code → StripeNo → Stored
with_stripe t code s = record t {
  stripes = λ r. same_stripe s r || t.stripes r;
  code = λ r. if same_stripe s r then code else t.code r;
  homes = λ r f. if same_stripe s r then None else t.homes r f;
}

-- one more stripe, of this code, whose fragments have their homes on these seats, in rising order of the fragments
abbrev pub with_homes : Stored → Code → StripeNo → List Seat → Stored
with_homes t code s seats = record (with_stripe t code s) { homes = λ r f. if same_stripe s r then slice_get seats f else t.homes r f }

-- the stripe and its homes taken out
abbrev pub without_stripe : Stored → StripeNo → Stored
without_stripe t s = record t {
  stripes = λ r. not (same_stripe s r) && t.stripes r;
  code = λ r. if same_stripe s r then Wide else t.code r;
  homes = λ r f. if same_stripe s r then None else t.homes r f;
}

-- the fragment of the stripe has this home, or none
abbrev pub with_home : Stored → StripeNo → Fragment → Option Seat → Stored
with_home t s f home = record t { homes = λ r g. if same_stripe s r && nat_eq f.value g then home else t.homes r g }

-- the node has this mode, and is down or not, as set
abbrev pub with_state : Stored → NodeNo → Mode → Bool → Stored
with_state t n mode is_down = record t { nodes = node.with_state t.nodes n mode is_down }

-- the nodes of an upgrade domain are upgrading or not, as set
abbrev pub with_upgrading_in : Stored → UpgradeNo → Bool → Stored
with_upgrading_in t u b = record t { nodes = node.with_upgrading_in t.nodes u b }

-- ---- queries of one stripe

-- the homes of a stripe, by fragment number from 0 to 15; none for a stripe that does not exist
abbrev pub homes_shown : Stored → StripeNo → Option (List (Option Seat))
homes_shown t s = homes_if (t.stripes s) (t.homes s)

-- the missing fragments of a stripe; none for a stripe that does not exist
abbrev pub missing_shown : Stored → StripeNo → Option LossMask
missing_shown t s = missing_if (t.stripes s) (t.code s) (online_in t.nodes) (t.homes s)

-- the fragments of a stripe that need a lease; none for a stripe that does not exist
abbrev pub needs_shown : Stored → StripeNo → Option LossMask
needs_shown t s = needs_if (t.stripes s) (t.code s) (draining_in t.nodes) (t.homes s)

-- the level of a stripe; none for a stripe that does not exist
abbrev pub level_shown : Stored → StripeNo → Option Level
level_shown t s = level_if (t.stripes s) (t.code s) (online_in t.nodes) (t.homes s)

-- ---- repair

-- the rank of a stripe: by the margin of its missing fragments
abbrev pub rank_in : Stored → StripeNo → ℕ
rank_in t s = rank_by (t.code s) (missing_in (t.code s) (online_in t.nodes) (t.homes s))

-- the stripe exists, and one of its fragments needs a lease
abbrev pub has_work : Stored → StripeNo → Bool
has_work t s = t.stripes s && has_some (t.code s) (needs_in (t.code s) (draining_in t.nodes) (t.homes s))

-- these are all stripes with a fragment that needs a lease, in the order of repair
pub record AreWork (t : Stored) (stripes : List StripeNo) : Type 0 where
  pub rising : AllPairs (λ r s. IsTrue (comes_first (rank_in t) r s)) stripes
  pub each : (s : StripeNo) → Contains stripes s ↔ IsTrue (has_work t s)

-- these are the stripes with a fragment that needs a lease from this one on, in the order of repair
pub record AreWorkFrom (t : Stored) (first : StripeNo) (stripes : List StripeNo) : Type 0 where
  pub rising : AllPairs (λ r s. IsTrue (comes_first (rank_in t) r s)) stripes
  pub each : (s : StripeNo) → Contains stripes s ↔ IsTrue (has_work t s && not (comes_first (rank_in t) s first))

-- these are all stripes that are not whole, each with its level, in the order of repair
pub record AreAtRisk (t : Stored) (rows : List StripeLevel) : Type 0 where
  pub rising : AllPairs (λ r s. IsTrue (comes_first (rank_in t) r.0 s.0)) rows
  pub each : (s : StripeNo) (l : Level) → Contains rows (s, l) ↔ ((level_shown t s ≡ Some l) × IsFalse (is_whole l))

-- ---- seats and nodes

-- the seat is a slot of one of the nodes
abbrev pub has_slot : List NodeInfo → Seat → Bool
has_slot nodes seat = option_map_or (λ n. nat_lt seat.slot n.slots) (node_at nodes seat.node) false

-- the seat is no fragment's home
abbrev pub HasNoHome : Stored → Seat → Type 0
HasNoHome t seat = (s : StripeNo) (f : ℕ) → t.homes s f ≢ Some seat

-- the fragment has its home on the node
abbrev pub is_home_on : Stored → NodeNo → StripeFragment → Bool
is_home_on t n p = option_map_or (λ seat. same_node n seat.node) (t.homes p.0 p.1.value) false

-- these are all fragments with a home on the node, in rising order
pub record AreHomesOn (t : Stored) (n : NodeNo) (places : List StripeFragment) : Type 0 where
  pub rising : AllPairs (λ p q. IsTrue (comes_before p q)) places
  pub each : (p : StripeFragment) → Contains places p ↔ IsTrue (is_home_on t n p)

-- these are the fragments with a home on the node of the stripes from this one on, in rising order
pub record AreHomesOnFrom (t : Stored) (n : NodeNo) (first : StripeNo) (places : List StripeFragment) : Type 0 where
  pub rising : AllPairs (λ p q. IsTrue (comes_before p q)) places
  pub each : (p : StripeFragment) → Contains places p ↔ (IsTrue (is_home_on t n p) × (first.value ≤ p.0.value))
