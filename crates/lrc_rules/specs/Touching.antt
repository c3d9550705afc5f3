-- Which levels and which loads a command can change.
use Rattle.std.specs.Prelude.{◌+◌, Bool, false, ◌&&◌, ◌||◌, List}
use Rattle.std.specs.List.{list_any}
use Rattle.std.specs.Option.{option_map_or}
use Rattle.lrc_code.specs.declared.numbers.StripeNo.{StripeNo}
use Rattle.lrc_code.specs.declared.numbers.NodeNo.{NodeNo}
use Rattle.lrc_code.specs.declared.numbers.UpgradeNo.{UpgradeNo}
use Rattle.lrc_code.specs.Numbers.{same_stripe, same_node, same_upgrade}
use Rattle.lrc_topology.specs.declared.NodeInfo.{NodeInfo}
use Rattle.lrc_topology.specs.Nodes.{node_at}
use Rattle.lrc_topology.specs.declared.seat.Held.{Held}
use Rattle.lrc_terms.specs.declared.lease.Lease.{Lease as LeaseRecord}
use Rattle.lrc_terms.specs.Leased.{is_of, is_target_on, ends_at}
use Rattle.lrc_rules.specs.declared.command.Command.{Command}
use Rattle.lrc_rules.specs.declared.command.Command.TheVariants.{Place, Place6, Drop, Lease, Next, Done, Abandon, Revoke, Fail, Down, Up, Retire, Join, Upgrade, Upgraded, Tick}
use Rattle.lrc_rules.specs.declared.reply.Reply.{Reply}
use Rattle.lrc_rules.specs.declared.reply.Reply.TheVariants.{Placed, Placed6, Dropped, Granted, Ended, Changed, Ticked}
use Rattle.lrc_rules.specs.States.{State, is_home_of}
use Rattle.lrc_rules.specs.Steps.{stands_on, hangs_on}

-- ---- levels

-- a fragment of the stripe has its home on a node that passes the test
abbrev pub has_home_on : State → StripeNo → (NodeNo → Bool) → Bool
has_home_on st s test = list_any (λ h. same_stripe h.stripe s && test h.seat.node) st.homes

-- the node of this number is in the upgrade domain
abbrev pub is_in_domain : List NodeInfo → UpgradeNo → NodeNo → Bool
is_in_domain nodes u n = option_map_or (λ m. same_upgrade u m.upgrade) (node_at nodes n) false

-- the command can change the level of the stripe: it places, drops or repairs it, or is on a node or domain where the
-- stripe has a home
abbrev pub can_change_level : List NodeInfo → State → StripeNo → Command → Bool
can_change_level nodes st s (Place r) = same_stripe r s
can_change_level nodes st s (Place6 r) = same_stripe r s
can_change_level nodes st s (Drop r) = same_stripe r s
can_change_level nodes st s (Done r f e) = same_stripe r s
can_change_level nodes st s (Fail n) = has_home_on st s (same_node n)
can_change_level nodes st s (Down n) = has_home_on st s (same_node n)
can_change_level nodes st s (Up n) = has_home_on st s (same_node n)
can_change_level nodes st s (Retire n) = has_home_on st s (same_node n)
can_change_level nodes st s (Join n) = has_home_on st s (same_node n)
can_change_level nodes st s (Upgrade u) = has_home_on st s (is_in_domain nodes u)
can_change_level nodes st s (Upgraded u) = has_home_on st s (is_in_domain nodes u)
can_change_level nodes st s _ = false

-- ---- loads

-- a home that passes the test is on the node
abbrev pub has_home_there : State → NodeNo → (Held → Bool) → Bool
has_home_there st n test = list_any (λ h. test h && same_node h.seat.node n) st.homes

-- a live lease that passes the test has its target on the node
abbrev pub has_target_there : State → NodeNo → (LeaseRecord → Bool) → Bool
has_target_there st n test = list_any (λ l. test l && is_target_on n l) st.leases

-- the command with this reply can change the load of the node: it gives or takes a seat on it, or makes a target on
-- it a home
abbrev pub can_change_load : State → NodeNo → Command → Reply → Bool
can_change_load st n (Place s) (Placed seats) = list_any (λ seat. same_node seat.node n) seats
can_change_load st n (Place6 s) (Placed6 seats) = list_any (λ seat. same_node seat.node n) seats
can_change_load st n (Drop s) Dropped = has_home_there st n (λ h. same_stripe s h.stripe) || has_target_there st n (λ l. same_stripe s l.stripe)
can_change_load st n (Lease s f) (Granted l kind) = is_target_on n l
can_change_load st n Next (Granted l kind) = is_target_on n l
can_change_load st n (Done s f e) Ended = has_home_there st n (is_home_of s f) || has_target_there st n (is_of s f.value)
can_change_load st n (Abandon s f e) Ended = has_target_there st n (is_of s f.value)
can_change_load st n (Revoke s f) Ended = has_target_there st n (is_of s f.value)
can_change_load st n (Fail m) Changed = has_home_there st n (stands_on m) || has_target_there st n (hangs_on st m)
can_change_load st n Tick (Ticked clock ended) = has_target_there st n (ends_at (st.clock + 1))
can_change_load st n _ _ = false
