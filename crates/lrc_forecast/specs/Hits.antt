-- Internal: no public clause reaches these definitions.
-- The fragments with a home, and the stripes with a seat, on one of some nodes; and the leases that end with these nodes.
use Rattle.std.specs.Prelude.{◌≡◌, ◌≢◌, Bool, false, ◌||◌, List, get_or, AllPairs, Option, Some}
use Rattle.std.specs.Option.{option_map_or}
use Rattle.lrc_code.specs.declared.numbers.StripeNo.{StripeNo}
use Rattle.lrc_code.specs.declared.numbers.NodeNo.{NodeNo}
use Rattle.lrc_code.specs.declared.numbers.Fragment.{Fragment}
use Rattle.lrc_topology.specs.declared.seat.Seat.{Seat}
use Rattle.lrc_terms.specs.Levels.{Homes}
use Rattle.lrc_rules.specs.States.{State, has_number, lease_of}
use Rattle.lrc_forecast.specs.Forecasts.{lease_target}

-- the set, by node number, has these nodes and no others
abbrev pub IsSetOf : List NodeNo → List Bool → Type 0
IsSetOf ns set = (n : NodeNo) → get_or set n.value false ≡ has_number ns n

-- the seat is on a node of the set
abbrev pub is_on_set : List Bool → Option Seat → Bool
is_on_set set seat = option_map_or (λ t. get_or set t.node.value false) seat false

-- the fragment has a live lease with its target or the fragment's home on a node of the set
abbrev pub has_lease_on_set : List Bool → State → StripeNo → Homes → Fragment → Bool
has_lease_on_set set st s of f = option_map_or (λ l. is_on_set set (Some l.target) || is_on_set set (of f.value)) (lease_of st s f) false

-- each fragment has at most one home
abbrev pub HaveOneHome : State → Type 0
HaveOneHome st = AllPairs (λ h g. h.stripe ≡ g.stripe → h.fragment ≢ g.fragment) st.homes

-- the home of the fragment or the target of its live lease is on a node of the set
abbrev pub has_seat_on_set : List Bool → State → StripeNo → Homes → Fragment → Bool
has_seat_on_set set st s of f = is_on_set set (of f.value) || is_on_set set (lease_target st s f)
