-- Internal: no public clause reaches these definitions.
-- The state change of a command, from the command and its reply.
use Rattle.std.specs.Prelude.{◌≡◌, Bool, true, false, not, filter, List, [], ◌∷◌, ◌++◌, Option, Some, None, is_some}
use Rattle.lrc_code.specs.declared.numbers.StripeNo.{StripeNo}
use Rattle.lrc_code.specs.declared.numbers.Fragment.{Fragment}
use Rattle.lrc_code.specs.declared.numbers.NodeNo.{NodeNo}
use Rattle.lrc_code.specs.declared.codes.Code.{Code}
use Rattle.lrc_code.specs.declared.codes.Code.TheVariants.{Wide, Narrow}
use Rattle.lrc_code.specs.Codes.{fragments}
use Rattle.lrc_topology.specs.declared.seat.Seat.{Seat}
use Rattle.lrc_topology.specs.declared.seat.Held.{Held}
use Rattle.lrc_rules.specs.declared.command.Command.{Command}
use Rattle.lrc_rules.specs.declared.command.Command.TheVariants.{Place, Place6, Drop, Lease, Next, Done, Abandon, Revoke, Upgrade, Upgraded, Tick}
use Rattle.lrc_rules.specs.declared.node_command.NodeCommand.{NodeCommand}
use Rattle.lrc_rules.specs.declared.reply.Reply.{Reply}
use Rattle.lrc_rules.specs.declared.reply.Reply.TheVariants.{Placed, Placed6, Dropped, Granted, Idle, Ended, Changed, Ticked, Refused}
use Rattle.lrc_topology.specs.declared.NodeInfo.{NodeInfo}
use Rattle.lrc_terms.specs.declared.lease.Lease.{Lease as LeaseRecord}
use Rattle.lrc_terms.specs.Leased.{is_target_on}
use Rattle.lrc_rules.specs.States.{State, lease_of}
use Rattle.lrc_code.specs.declared.numbers.SessionNo.{SessionNo}
use Rattle.lrc_rules.specs.declared.entry.Entry.{Entry}
use Rattle.lrc_rules.specs.Leases.{with_lease, without_lease, moved_in, ticked}
use Rattle.lrc_rules.specs.Steps.{step, with_stripe, without_stripe, changed_on, node_command, with_upgrading, without_upgrading}

-- each fragment of a stripe on the seat at the same position
abbrev pub held_at : StripeNo → List Fragment → List Seat → List Held
held_at s (f ∷ fs) (seat ∷ seats) = record { stripe = s; fragment = f; seat = seat } ∷ held_at s fs seats
held_at s _ _ = []

-- the state with a new stripe of this code, its fragments on these seats
abbrev pub with_placed : State → Code → StripeNo → List Seat → State
with_placed st code s seats = record (with_stripe st code s) { homes = st.homes ++ held_at s (fragments code) seats }

-- the state after an accepted Done: the lease is over, and its target is the fragment's home
abbrev pub with_done : State → StripeNo → Fragment → Option LeaseRecord → State
with_done st s f None = st
with_done st s f (Some lease) = moved_in st s f lease.target

-- without the leases whose target is on the node
abbrev pub without_targets : State → NodeNo → State
without_targets st n = record st { leases = filter (λ l. not (is_target_on n l)) st.leases }

-- the state after a command on a node, if it is one
abbrev pub changed_at : State → Option (NodeCommand × NodeNo) → State
changed_at st None = st
changed_at st (Some on) = changed_on on.0 st on.1

-- the state after a command with this reply
abbrev pub changed_by : State → Command → Reply → State
changed_by st (Place s) (Placed seats) = with_placed st Wide s seats
changed_by st (Place6 s) (Placed6 seats) = with_placed st Narrow s seats
changed_by st (Drop s) Dropped = without_stripe st s
changed_by st (Lease s f) (Granted lease kind) = with_lease st lease
changed_by st Next (Granted lease kind) = with_lease st lease
changed_by st (Done s f e) Ended = with_done st s f (lease_of st s f)
changed_by st (Abandon s f e) Ended = without_lease st s f
changed_by st (Revoke s f) Ended = without_lease st s f
changed_by st (Upgrade u) Changed = with_upgrading st u
changed_by st (Upgraded u) Changed = without_upgrading st
changed_by st c Changed = changed_at st (node_command c)
changed_by st Tick (Ticked clock ended) = ticked st
changed_by st _ _ = st

-- a session's command gets this reply in this state, after some entries
pub record IsAnswer (nodes : List NodeInfo) (st : State) (c : Command) (r : Reply) : Type 0 where
  pub past : List Entry
  pub session : SessionNo
  pub told : (step nodes past st session c).0 ≡ r

-- the command asks for a lease
abbrev pub asks_for_lease : Command → Bool
asks_for_lease (Lease s f) = true
asks_for_lease Next = true
asks_for_lease _ = false

-- the command can get a reply of this kind
abbrev pub can_get : Command → Reply → Bool
can_get c (Refused r) = true
can_get c (Granted l k) = asks_for_lease c
can_get (Place s) (Placed seats) = true
can_get (Place6 s) (Placed6 seats) = true
can_get (Drop s) Dropped = true
can_get Next Idle = true
can_get (Done s f e) Ended = true
can_get (Abandon s f e) Ended = true
can_get (Revoke s f) Ended = true
can_get (Upgrade u) Changed = true
can_get (Upgraded u) Changed = true
can_get c Changed = is_some (node_command c)
can_get Tick (Ticked clock ended) = true
can_get c _ = false

-- the command asks for a lease, and the reply grants one
abbrev pub grants_lease : Command → Reply → Bool
grants_lease (Lease s f) (Granted lease kind) = true
grants_lease Next (Granted lease kind) = true
grants_lease _ _ = false
