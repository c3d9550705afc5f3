-- The state of the store, and what can be read from it.
use Rattle.std.specs.Prelude.{ℕ, Bool, false, not, ◌&&◌, if◌then◌else◌, List, [], ◌++◌, map, filter, Option, Some, None, option_map, is_some}
use Rattle.std.specs.List.{list_any}
use Rattle.std.specs.Option.{option_map_or}
use Rattle.lrc_code.specs.declared.codes.Code.{Code}
use Rattle.lrc_code.specs.declared.codes.Code.TheVariants.{Wide, Narrow}
use Rattle.lrc_code.specs.declared.losses.LossMask.{LossMask}
use Rattle.lrc_code.specs.declared.numbers.StripeNo.{StripeNo}
use Rattle.lrc_code.specs.declared.numbers.NodeNo.{NodeNo}
use Rattle.lrc_code.specs.declared.numbers.UpgradeNo.{UpgradeNo}
use Rattle.lrc_code.specs.declared.numbers.Fragment.{Fragment}
use Rattle.lrc_code.specs.Numbers.{same_stripe, same_fragment, same_node, same_upgrade}
use Rattle.lrc_code.specs.Codes.{fragments, all_fragments}
use Rattle.lrc_code.specs.Losses.{FragmentSet}
use Rattle.lrc_topology.specs.declared.NodeInfo.{NodeInfo}
use Rattle.lrc_topology.specs.declared.seat.Seat.{Seat}
use Rattle.lrc_topology.specs.declared.seat.Held.{Held}
use Rattle.lrc_topology.specs.Nodes.{node_at}
use Rattle.lrc_topology.specs.Seats.{load_of, free_slot}
use Rattle.lrc_terms.specs.declared.level.Level.{Level}
use Rattle.lrc_terms.specs.Levels.{homes_of, homeless_in, missing_in, level_by, rank_by, missing_if, level_if}
use Rattle.lrc_terms.specs.declared.lease.Lease.{Lease}
use Rattle.lrc_terms.specs.Leased.{leases_in}
use Rattle.lrc_terms.specs.Modes.{is_active, is_draining, is_gone}
use Rattle.lrc_terms.specs.declared.mode.Mode.{Mode}
use Rattle.lrc_terms.specs.declared.mode.Mode.TheVariants.{Active, Draining, Gone}

-- The state of the store. Each list is in the order in which its elements were added. A node in none of the lists is
-- active and not down.
pub record State : Type 0 where
  -- the stripes of the store
  pub stripes : List StripeNo
  -- those of the code Narrow; all others have the code Wide
  pub narrow : List StripeNo
  -- the home of each fragment that has one
  pub homes : List Held
  -- the live leases
  pub leases : List Lease
  -- the nodes that are out of the store
  pub gone : List NodeNo
  -- the nodes that keep their seats and get no more
  pub draining : List NodeNo
  -- the nodes that cannot be reached
  pub down : List NodeNo
  -- the upgrade domain whose nodes are offline for an upgrade, if there is one
  pub upgrading : Option UpgradeNo
  -- the number of ticks so far
  pub clock : ℕ

-- the empty store: no stripes, all nodes active and not down, no domain upgrading, the clock at 0
abbrev pub opening : State
opening = record { stripes = []; narrow = []; homes = []; leases = []; gone = []; draining = []; down = []; upgrading = None; clock = 0 }

-- ---- stripes and seats

-- the store has the stripe
abbrev pub has_stripe : State → StripeNo → Bool
has_stripe st s = list_any (same_stripe s) st.stripes

-- the code of a stripe
abbrev pub code_of : State → StripeNo → Code
code_of st s = if list_any (same_stripe s) st.narrow then Narrow else Wide

-- the target of a lease, as the held seat of its fragment
abbrev pub held_by : Lease → Held
held_by l = record { stripe = l.stripe; fragment = l.fragment; seat = l.target }

-- all held seats, with their fragments: the homes, and the targets of live leases
abbrev pub seats_of : State → List Held
seats_of st = st.homes ++ map held_by st.leases

-- the seats that are not free
abbrev pub taken_seats : State → List Seat
taken_seats st = map (λ h. h.seat) (seats_of st)

-- the load of a node: the number of held seats on it
abbrev pub load : State → NodeNo → ℕ
load st n = load_of (taken_seats st) n

-- the live lease of a fragment, if there is one
abbrev pub lease_of : State → StripeNo → Fragment → Option Lease
lease_of st s f = leases_in st.leases s f.value

-- this is a home of the fragment
abbrev pub is_home_of : StripeNo → Fragment → Held → Bool
is_home_of s f h = same_stripe h.stripe s && same_fragment h.fragment f

-- ---- nodes

-- the node is in the list
abbrev pub has_number : List NodeNo → NodeNo → Bool
has_number numbers n = list_any (same_node n) numbers

-- the list without the node
abbrev pub without_number : List NodeNo → NodeNo → List NodeNo
without_number numbers n = filter (λ m. not (same_node n m)) numbers

-- the mode of a node: Active, unless it is gone or draining
abbrev pub mode_of : State → NodeNo → Mode
mode_of st n = if has_number st.gone n then Gone else (if has_number st.draining n then Draining else Active)

-- the node is down: a Down of it was not followed by an Up, Fail or Retire
abbrev pub is_down : State → NodeNo → Bool
is_down st n = has_number st.down n

-- the node's upgrade domain is upgrading
abbrev pub is_upgrading : State → NodeInfo → Bool
is_upgrading st n = option_map_or (λ u. same_upgrade u n.upgrade) st.upgrading false

-- the node is online: not gone, not down, and its upgrade domain is not upgrading
abbrev pub is_online : State → NodeInfo → Bool
is_online st n = not (is_gone (mode_of st n.number)) && (not (is_down st n.number) && not (is_upgrading st n))

-- the node takes seats: it is active and online
abbrev pub takes_seats : State → NodeInfo → Bool
takes_seats st n = is_active (mode_of st n.number) && is_online st n

-- the node takes seats, and has a free slot
abbrev pub is_eligible : State → NodeInfo → Bool
is_eligible st n = takes_seats st n && is_some (free_slot (taken_seats st) n)

-- the node of this number is online
abbrev pub online_at : List NodeInfo → State → NodeNo → Bool
online_at nodes st n = option_map_or (is_online st) (node_at nodes n) false

-- the node of this number is draining
abbrev pub drains_at : List NodeInfo → State → NodeNo → Bool
drains_at nodes st n = option_map_or (λ m. is_draining (mode_of st m.number)) (node_at nodes n) false

-- ---- missing fragments and levels

-- the fragments of a stripe without a home
abbrev pub homeless : State → StripeNo → FragmentSet
homeless st s = homeless_in (code_of st s) (homes_of st.homes s)

-- the fragments of a stripe without a home on an online node
abbrev pub missing : List NodeInfo → State → StripeNo → FragmentSet
missing nodes st s = missing_in (code_of st s) (online_at nodes st) (homes_of st.homes s)

-- the rank of a stripe in the order of repair, by its missing fragments; 0 is the most urgent
abbrev pub rank : List NodeInfo → State → StripeNo → ℕ
rank nodes st s = rank_by (code_of st s) (missing nodes st s)

-- the level of a stripe, by its homeless and its missing fragments
abbrev pub level : List NodeInfo → State → StripeNo → Level
level nodes st s = level_by (code_of st s) (homeless st s) (missing nodes st s)

-- ---- what a read returns; none if the store has no such stripe or node

-- the homes of a stripe by the sixteen fragment numbers, in ascending order; no seat for a fragment without a home
abbrev pub homes_shown : State → StripeNo → Option (List (Option Seat))
homes_shown st s = if has_stripe st s then Some (map (λ f. homes_of st.homes s f.value) all_fragments) else None

-- the code of a stripe
abbrev pub code_shown : State → StripeNo → Option Code
code_shown st s = if has_stripe st s then Some (code_of st s) else None

-- the load of a node
abbrev pub load_shown : List NodeInfo → State → NodeNo → Option ℕ
load_shown nodes st n = option_map (λ m. load st m.number) (node_at nodes n)

-- the level of a stripe
abbrev pub level_shown : List NodeInfo → State → StripeNo → Option Level
level_shown nodes st s = level_if (has_stripe st s) (code_of st s) (online_at nodes st) (homes_of st.homes s)

-- the missing fragments of a stripe, as a mask
abbrev pub missing_shown : List NodeInfo → State → StripeNo → Option LossMask
missing_shown nodes st s = missing_if (has_stripe st s) (code_of st s) (online_at nodes st) (homes_of st.homes s)

-- the mode of a node, and whether it is online
abbrev pub mode_shown : List NodeInfo → State → NodeNo → Option (Mode × Bool)
mode_shown nodes st n = option_map (λ m. (mode_of st m.number, is_online st m)) (node_at nodes n)
