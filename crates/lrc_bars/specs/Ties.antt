-- The slot table that belongs to a state, and the domains that are barred for a fragment.
use Rattle.std.specs.Prelude.{Bool, true, false, ◌&&◌, List, ◌++◌, Option, option_map, option_and_then, ◌≡◌, ◌||◌, Some, None}
use Rattle.std.specs.List.{list_any}
use Rattle.std.specs.Option.{option_map_or}
use Rattle.lrc_code.specs.declared.codes.Code.{Code}
use Rattle.lrc_code.specs.declared.numbers.StripeNo.{StripeNo}
use Rattle.lrc_code.specs.declared.numbers.Fragment.{Fragment}
use Rattle.lrc_code.specs.declared.numbers.FaultNo.{FaultNo}
use Rattle.lrc_code.specs.declared.numbers.UpgradeNo.{UpgradeNo}
use Rattle.lrc_code.specs.Numbers.{same_fault, same_upgrade}
use Rattle.lrc_code.specs.Codes.{share_class}
use Rattle.lrc_topology.specs.declared.NodeInfo.{NodeInfo}
use Rattle.lrc_topology.specs.declared.seat.Seat.{Seat}
use Rattle.lrc_topology.specs.declared.seat.Held.{Held}
use Rattle.lrc_topology.specs.Nodes.{node_at}
use Rattle.lrc_topology.specs.Seats.{is_taken}
use Rattle.lrc_slots.specs.Slots.{Slots, least_free_at}
use Rattle.lrc_slots.specs.Barred.{Barred, with_upgrade}
use Rattle.lrc_slots.specs.Next.{next_number}
use Rattle.lrc_rules.specs.States.{State, code_of, seats_of, taken_seats, takes_seats}
use Rattle.lrc_rules.specs.Placement.{is_beside}
use Rattle.lrc_rules.specs.Steps.{without_upgrading}
use Rattle.lrc_code.specs.declared.losses.LossMask.{LossMask}
use Rattle.lrc_code.specs.Losses.{bits_set}

-- the nodes that take seats are eligible, and the seats of the state are taken
abbrev pub table_of : List NodeInfo → State → Slots
table_of nodes st = record { nodes = nodes; eligible = λ n. option_map_or (takes_seats st) (node_at nodes n) true; taken = is_taken (taken_seats st) }

-- the slot table that is kept of a state: the nodes of the upgrading domain stay eligible, and its bars keep them out of each choice
abbrev pub kept_table : List NodeInfo → State → Slots
kept_table nodes st = table_of nodes (without_upgrading st)

-- ---- barred domains

-- a seat of another fragment of the stripe, on a node of the fault domain
abbrev pub bars_fault : List NodeInfo → StripeNo → Fragment → FaultNo → Held → Bool
bars_fault nodes s f d h = is_beside s f h && option_map_or (λ m. same_fault d m.fault) (node_at nodes h.seat.node) false

-- such a seat of a fragment of the same class, on a node of the upgrade domain
abbrev pub bars_upgrade : List NodeInfo → Code → StripeNo → Fragment → UpgradeNo → Held → Bool
bars_upgrade nodes code s f d h =
    is_beside s f h
    && option_map_or (λ m. share_class code f h.fragment && same_upgrade d m.upgrade) (node_at nodes h.seat.node) false

-- the domains that these seats bar for a fragment
abbrev pub bars_in : List NodeInfo → Code → StripeNo → Fragment → List Held → Barred
bars_in nodes code s f seats =
    record { faults = λ d. list_any (bars_fault nodes s f d) seats; upgrades = λ d. list_any (bars_upgrade nodes code s f d) seats }

-- the domains that are barred for a fragment: those of the stripe's other fragments
abbrev pub bars_of : List NodeInfo → State → StripeNo → Fragment → Barred
bars_of nodes st s f = bars_in nodes (code_of st s) s f (seats_of st)

-- what is barred, with the upgrading domain, if there is one
abbrev pub closed : Option UpgradeNo → Barred → Barred
closed None b = b
closed (Some u) b = with_upgrade b u

-- (internal) what is barred, with what one more seat bars
abbrev pub with_held : List NodeInfo → Code → StripeNo → Fragment → Barred → Held → Barred
with_held nodes code s f b h =
    record { faults = λ d. b.faults d || bars_fault nodes s f d h; upgrades = λ d. b.upgrades d || bars_upgrade nodes code s f d h }

-- (internal) the mask has the fragments that share the fragment's class
abbrev pub AreClassMembers : Code → Fragment → LossMask → Type 0
AreClassMembers code f members = (g : Fragment) → bits_set members.bits g.value ≡ share_class code f g

-- (internal) the same with a seat of another fragment of the stripe, if it has one
abbrev pub with_seat : List NodeInfo → Code → StripeNo → Fragment → Barred → Fragment → Option Seat → Barred
with_seat nodes code s f b other None = b
with_seat nodes code s f b other (Some seat) = with_held nodes code s f b (record { stripe = s; fragment = other; seat = seat })

-- ---- what a table gives

-- the seat that a table gives: the least free slot of the next node
abbrev pub next_seat : Slots → Barred → Option Seat
next_seat t b = option_and_then (λ n. option_map (λ slot. record { node = n; slot = slot }) (least_free_at t n)) (next_number t b)

-- the state with further homes
abbrev pub with_homes : State → List Held → State
with_homes st more = record st { homes = st.homes ++ more }
