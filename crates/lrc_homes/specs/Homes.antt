-- The node or seat that a home is on.
use Rattle.std.specs.Prelude.{◌-◌, Bool, true, false, not, List, ◌++◌, length, map, replicate, get_or, Option, Some, None}
use Rattle.std.specs.Option.{option_map_or}
use Rattle.lrc_code.specs.declared.numbers.NodeNo.{NodeNo}
use Rattle.lrc_code.specs.declared.numbers.Fragment.{Fragment}
use Rattle.lrc_code.specs.Numbers.{same_node}
use Rattle.lrc_topology.specs.declared.seat.Seat.{Seat}
use Rattle.lrc_topology.specs.Seats.{is_seat}

-- ---- homes on seats

-- the homes of a stripe on these seats, by fragment number from 0 to 15; the fragments after the last seat have none
abbrev pub seated_homes : List Seat → List (Option Seat)
seated_homes seats = map Some seats ++ replicate (16 - length seats) None

-- ---- one home

-- the home is on the node
abbrev pub sits_on : NodeNo → Option Seat → Bool
sits_on n home = option_map_or (λ seat. same_node n seat.node) home false

-- the home is on the seat
abbrev pub is_on_seat : Seat → Option Seat → Bool
is_on_seat seat home = option_map_or (λ k. is_seat k.node k.slot seat.node seat.slot) home false

-- a fragment with this home is missing
abbrev pub is_missing : (NodeNo → Bool) → Option Seat → Bool
is_missing online home = option_map_or (λ seat. not (online seat.node)) home true

-- a fragment with this home needs a lease
abbrev pub is_to_move : (NodeNo → Bool) → Option Seat → Bool
is_to_move draining home = option_map_or (λ seat. draining seat.node) home true

-- (internal) the fragment has its home on the node
abbrev pub sits_at : NodeNo → List (Option Seat) → Fragment → Bool
sits_at n homes f = sits_on n (get_or homes f.value None)
