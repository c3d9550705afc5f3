-- The reply to each command, and the state after it.
use Rattle.std.specs.Prelude.{Bool, false, not, ◌&&◌, ◌||◌, nat_lt, List, [], ◌∷◌, ◌++◌, drop, length, map, filter, Option, Some, None, is_none, Result, Ok, Err}
use Rattle.std.specs.List.{list_any}
use Rattle.std.specs.Option.{option_map_or}
use Rattle.lrc_code.specs.declared.codes.Code.{Code}
use Rattle.lrc_code.specs.declared.codes.Code.TheVariants.{Wide, Narrow}
use Rattle.lrc_code.specs.declared.numbers.StripeNo.{StripeNo}
use Rattle.lrc_code.specs.declared.numbers.NodeNo.{NodeNo}
use Rattle.lrc_code.specs.declared.numbers.UpgradeNo.{UpgradeNo}
use Rattle.lrc_code.specs.declared.numbers.SessionNo.{SessionNo}
use Rattle.lrc_code.specs.declared.numbers.Fragment.{Fragment}
use Rattle.lrc_code.specs.Numbers.{same_stripe, same_node, same_upgrade}
use Rattle.lrc_code.specs.Order.{least}
use Rattle.lrc_topology.specs.declared.NodeInfo.{NodeInfo}
use Rattle.lrc_topology.specs.declared.seat.Seat.{Seat}
use Rattle.lrc_topology.specs.declared.seat.Held.{Held}
use Rattle.lrc_topology.specs.Nodes.{node_at, has_domain}
use Rattle.lrc_rules.specs.declared.command.Command.{Command}
use Rattle.lrc_rules.specs.declared.command.Command.TheVariants.{Place, Place6, Drop, Lease, Next, Done, Abandon, Revoke, Fail, Down, Up, Drain, Undrain, Retire, Join, Upgrade, Upgraded, Tick}
use Rattle.lrc_rules.specs.declared.node_command.NodeCommand.{NodeCommand}
use Rattle.lrc_rules.specs.declared.node_command.NodeCommand.TheVariants as node
use Rattle.lrc_rules.specs.declared.reply.Reply.{Reply}
use Rattle.lrc_rules.specs.declared.reply.Reply.TheVariants.{Placed, Placed6, Dropped, Changed}
use Rattle.lrc_rules.specs.declared.refusal.Refusal.TheVariants as refusal
use Rattle.lrc_rules.specs.declared.entry.Entry.{Entry}
use Rattle.lrc_terms.specs.declared.lease.Lease.{Lease as LeaseRecord}
use Rattle.lrc_terms.specs.Leased.{is_target_on}
use Rattle.lrc_terms.specs.Modes.{is_active, is_draining, is_gone}
use Rattle.lrc_rules.specs.States.{State, has_stripe, is_home_of, without_number, mode_of, is_down, load}
use Rattle.lrc_rules.specs.Placement.{placed}
use Rattle.lrc_rules.specs.Repairs.{is_safe}
use Rattle.lrc_rules.specs.Outcomes.{Outcome, refused, refuse_if}
use Rattle.lrc_rules.specs.Leases.{lease_outcome, next_outcome, done_outcome, abandon_outcome, revoke_outcome, tick_outcome}

-- ---- stripes

-- this is another stripe
abbrev pub is_other : StripeNo → StripeNo → Bool
is_other s t = not (same_stripe s t)

-- the list of narrow stripes, after this stripe gets this code
abbrev pub with_code : Code → StripeNo → List StripeNo → List StripeNo
with_code Wide s narrow = filter (is_other s) narrow
with_code Narrow s narrow = narrow ++ s ∷ []

-- one more stripe, with this code
abbrev pub with_stripe : State → Code → StripeNo → State
with_stripe st code s = record st { stripes = st.stripes ++ s ∷ []; narrow = with_code code s st.narrow }

-- the reply that places a stripe of this code on these seats
abbrev pub placed_reply : Code → List Seat → Reply
placed_reply Wide seats = Placed seats
placed_reply Narrow seats = Placed6 seats

-- the command that places a stripe of this code
abbrev pub place_command : Code → StripeNo → Command
place_command Wide s = Place s
place_command Narrow s = Place6 s

-- reply with the homes that were added, or refuse for the fragment that found no seat
abbrev pub place_answer : State → Code → Result State Fragment → Outcome
place_answer st code (Ok done) = (placed_reply code (map (λ h. h.seat) (drop (length st.homes) done.homes)), done)
place_answer st code (Err f) = refused (refusal.NoLawfulNode f) st

-- Place and Place6: refused if the store has the stripe, or for the first fragment that finds no seat
unfoldable pub place_outcome : List NodeInfo → State → Code → StripeNo → Outcome
place_outcome nodes st code s = refuse_if (has_stripe st s) refusal.StripeExists st (place_answer st code (placed nodes (with_stripe st code s) s))

-- without the stripe, its code, its homes and its leases
abbrev pub without_stripe : State → StripeNo → State
without_stripe st s =
    record st {
      stripes = filter (is_other s) st.stripes;
      narrow = filter (is_other s) st.narrow;
      homes = filter (λ h. is_other s h.stripe) st.homes;
      leases = filter (λ l. is_other s l.stripe) st.leases;
    }

-- Drop: refused if the store has no such stripe
unfoldable pub drop_outcome : State → StripeNo → Outcome
drop_outcome st s = refuse_if (not (has_stripe st s)) refusal.UnknownStripe st (Dropped, without_stripe st s)

-- ---- nodes

-- the held seat is on the node
abbrev pub stands_on : NodeNo → Held → Bool
stands_on n h = same_node n h.seat.node

-- the target of the lease is on the node, or a home of its fragment is
abbrev pub hangs_on : State → NodeNo → LeaseRecord → Bool
hangs_on st n l = is_target_on n l || list_any (λ h. is_home_of l.stripe l.fragment h && stands_on n h) st.homes

-- without the homes on the node, and without the leases that have their target or their fragment's home on it
abbrev pub emptied : State → NodeNo → State
emptied st n = record st { homes = filter (λ h. not (stands_on n h)) st.homes; leases = filter (λ l. not (hangs_on st n l)) st.leases }

-- the node is out of the store, and neither draining nor down
abbrev pub with_gone : State → NodeNo → State
with_gone st n = record st { gone = st.gone ++ n ∷ []; draining = without_number st.draining n; down = without_number st.down n }

-- the node is down
abbrev pub with_down : State → NodeNo → State
with_down st n = record st { down = st.down ++ n ∷ [] }

-- the node is not down
abbrev pub without_down : State → NodeNo → State
without_down st n = record st { down = without_number st.down n }

-- the node is draining
abbrev pub with_draining : State → NodeNo → State
with_draining st n = record st { draining = st.draining ++ n ∷ [] }

-- the node is not draining
abbrev pub without_draining : State → NodeNo → State
without_draining st n = record st { draining = without_number st.draining n }

-- the node is back in the store
abbrev pub without_gone : State → NodeNo → State
without_gone st n = record st { gone = without_number st.gone n }

-- The table of the commands on a node. First, the command is wrong: the mode of the node, or whether it is down, does not
-- allow it.
abbrev pub is_wrong_on : NodeCommand → State → NodeNo → Bool
is_wrong_on node.Fail st n = is_gone (mode_of st n)
is_wrong_on node.Down st n = is_gone (mode_of st n) || is_down st n
is_wrong_on node.Up st n = not (is_down st n)
is_wrong_on node.Drain st n = not (is_active (mode_of st n))
is_wrong_on node.Undrain st n = not (is_draining (mode_of st n))
is_wrong_on node.Retire st n = not (is_draining (mode_of st n))
is_wrong_on node.Join st n = not (is_gone (mode_of st n))

-- second, the state with the node in the mode that the command gives it, and down or not down
abbrev pub with_mode : NodeCommand → State → NodeNo → State
with_mode node.Fail st n = with_gone st n
with_mode node.Down st n = with_down st n
with_mode node.Up st n = without_down st n
with_mode node.Drain st n = with_draining st n
with_mode node.Undrain st n = without_draining st n
with_mode node.Retire st n = with_gone st n
with_mode node.Join st n = without_gone st n

-- third, Fail alone empties the node first
abbrev pub emptied_if : NodeCommand → State → NodeNo → State
emptied_if node.Fail st n = emptied st n
emptied_if _ st n = st

-- fourth, Retire alone is refused while the node has held seats
abbrev pub is_kept_by_load : NodeCommand → State → NodeNo → Bool
is_kept_by_load node.Retire st n = nat_lt 0 (load st n)
is_kept_by_load _ st n = false

-- the state after the command, if it is not refused
abbrev pub changed_on : NodeCommand → State → NodeNo → State
changed_on command st n = with_mode command (emptied_if command st n) n

-- the outcome on a node of the store whose mode allows the command
abbrev pub last_on : NodeCommand → State → NodeNo → Outcome
last_on command st n = refuse_if (is_kept_by_load command st n) (refusal.NotEmpty (load st n)) st (Changed, changed_on command st n)

-- a command on a node: refused if the store has no such node, if the command is wrong, or while held seats keep the node
unfoldable pub node_outcome : List NodeInfo → State → NodeCommand → NodeNo → Outcome
node_outcome nodes st command n =
    refuse_if (is_none (node_at nodes n)) refusal.UnknownNode st
    (refuse_if (is_wrong_on command st n) refusal.WrongMode st
    (last_on command st n))

-- the row of the table for this command, and its node; none if the command is not on a node
abbrev pub node_command : Command → Option (NodeCommand × NodeNo)
node_command (Fail n) = Some (node.Fail, n)
node_command (Down n) = Some (node.Down, n)
node_command (Up n) = Some (node.Up, n)
node_command (Drain n) = Some (node.Drain, n)
node_command (Undrain n) = Some (node.Undrain, n)
node_command (Retire n) = Some (node.Retire, n)
node_command (Join n) = Some (node.Join, n)
node_command _ = None

-- ---- upgrades

-- the domain is upgrading
abbrev pub with_upgrading : State → UpgradeNo → State
with_upgrading st u = record st { upgrading = Some u }

-- no domain is upgrading
abbrev pub without_upgrading : State → State
without_upgrading st = record st { upgrading = None }

-- the stripe is recoverable, and would not be with the domain upgrading
abbrev pub is_lost_to : List NodeInfo → State → UpgradeNo → StripeNo → Bool
is_lost_to nodes st u s = is_safe nodes st s && not (is_safe nodes (with_upgrading st u) s)

-- the stripe with the lowest number of those that the upgrade would make unrecoverable
unfoldable pub would_lose : List NodeInfo → State → UpgradeNo → Option StripeNo
would_lose nodes st u = least (λ s t. nat_lt s.value t.value) (filter (is_lost_to nodes st u) st.stripes)

-- refuse if a domain is upgrading already, or if a stripe would be lost; otherwise upgrade the domain
abbrev pub upgrade_answer : State → UpgradeNo → Option UpgradeNo → Option StripeNo → Outcome
upgrade_answer st u (Some v) lost = refused (refusal.UpgradeRunning v) st
upgrade_answer st u None (Some s) = refused (refusal.WouldLose s) st
upgrade_answer st u None None = (Changed, with_upgrading st u)

-- Upgrade: refused if the domain has no node, if a domain is upgrading, or for the lowest stripe that it would make
-- unrecoverable
unfoldable pub upgrade_outcome : List NodeInfo → State → UpgradeNo → Outcome
upgrade_outcome nodes st u = refuse_if (not (has_domain nodes u)) refusal.UnknownDomain st (upgrade_answer st u st.upgrading (would_lose nodes st u))

-- this domain is upgrading
abbrev pub is_the_domain : UpgradeNo → Option UpgradeNo → Bool
is_the_domain u upgrading = option_map_or (same_upgrade u) upgrading false

-- Upgraded: refused if the domain has no node, or is not upgrading
unfoldable pub upgraded_outcome : List NodeInfo → State → UpgradeNo → Outcome
upgraded_outcome nodes st u =
    refuse_if (not (has_domain nodes u)) refusal.UnknownDomain st
    (refuse_if (not (is_the_domain u st.upgrading)) refusal.NotUpgrading st
    (Changed, without_upgrading st))

-- ---- the step

-- the rules: the reply to a session's command in a state after these entries, and the state after the command
abbrev pub step : List NodeInfo → List Entry → State → SessionNo → Command → Outcome
step nodes past st session (Place s) = place_outcome nodes st Wide s
step nodes past st session (Place6 s) = place_outcome nodes st Narrow s
step nodes past st session (Drop s) = drop_outcome st s
step nodes past st session (Lease s f) = lease_outcome nodes past st session s f
step nodes past st session Next = next_outcome nodes past st session
step nodes past st session (Done s f e) = done_outcome nodes st session s f e
step nodes past st session (Abandon s f e) = abandon_outcome st session s f e
step nodes past st session (Revoke s f) = revoke_outcome st s f
step nodes past st session (Fail n) = node_outcome nodes st node.Fail n
step nodes past st session (Down n) = node_outcome nodes st node.Down n
step nodes past st session (Up n) = node_outcome nodes st node.Up n
step nodes past st session (Drain n) = node_outcome nodes st node.Drain n
step nodes past st session (Undrain n) = node_outcome nodes st node.Undrain n
step nodes past st session (Retire n) = node_outcome nodes st node.Retire n
step nodes past st session (Join n) = node_outcome nodes st node.Join n
step nodes past st session (Upgrade u) = upgrade_outcome nodes st u
step nodes past st session (Upgraded u) = upgraded_outcome nodes st u
step nodes past st session Tick = tick_outcome st
