-- Internal: no public clause reaches these definitions.
-- Which fragments a command with this reply changes.
use Rattle.std.specs.Prelude.{ℕ, ◌+◌, ◌*◌, Bool, false, ◌&&◌, ◌||◌, if◌then◌else◌, nat_eq, nat_lt}
use Rattle.std.specs.Prelude.{Option, Some, None, is_some}
use Rattle.lrc_code.specs.declared.numbers.StripeNo.{StripeNo}
use Rattle.lrc_code.specs.declared.numbers.NodeNo.{NodeNo}
use Rattle.lrc_code.specs.Numbers.{same_stripe, same_fragment, same_node}
use Rattle.lrc_topology.specs.declared.seat.Seat.{Seat}
use Rattle.lrc_terms.specs.declared.lease.Lease.{Lease as LeaseRecord}
use Rattle.lrc_terms.specs.Leased.{is_target_on, ends_at}
use Rattle.lrc_rules.specs.declared.command.Command.{Command}
use Rattle.lrc_rules.specs.declared.command.Command.TheVariants.{Place, Place6, Drop, Done, Abandon, Revoke, Fail}
use Rattle.lrc_rules.specs.declared.reply.Reply.{Reply}
use Rattle.lrc_rules.specs.declared.reply.Reply.TheVariants.{Placed, Placed6, Dropped, Granted, Idle, Ended, Changed}
use Rattle.lrc_rules.specs.declared.reply.Reply.TheVariants.{Refused, Ticked}
use Rattle.lrc_rules.specs.States.{State}
use Rattle.lrc_walks.specs.WalkRows.{place_at}
use Rattle.lrc_changes.specs.declared.touch.Former.{Former}
use Rattle.lrc_changes.specs.Changes.{former}

-- ---- by the reply

abbrev pub is_placed_wide : Command → Former → Bool
is_placed_wide (Place s) x = same_stripe s x.stripe
is_placed_wide _ x = false

abbrev pub is_placed_narrow : Command → Former → Bool
is_placed_narrow (Place6 s) x = same_stripe s x.stripe && nat_lt x.fragment.value 10
is_placed_narrow _ x = false

abbrev pub is_dropped : Command → Former → Bool
is_dropped (Drop s) x = same_stripe s x.stripe && (is_some x.home || is_some x.lease)
is_dropped _ x = false

abbrev pub is_let_go : Command → Former → Bool
is_let_go (Done s f e) x = same_stripe s x.stripe && same_fragment f x.fragment
is_let_go (Abandon s f e) x = same_stripe s x.stripe && same_fragment f x.fragment
is_let_go (Revoke s f) x = same_stripe s x.stripe && same_fragment f x.fragment
is_let_go _ x = false

-- the home is on the node
abbrev pub has_seat_on : NodeNo → Option Seat → Bool
has_seat_on n None = false
has_seat_on n (Some seat) = same_node n seat.node

-- the target of the lease is on the node
abbrev pub hangs_over : NodeNo → Option LeaseRecord → Bool
hangs_over n None = false
hangs_over n (Some l) = is_target_on n l

abbrev pub is_emptied : Command → Former → Bool
is_emptied (Fail n) x = has_seat_on n x.home || hangs_over n x.lease
is_emptied _ x = false

-- the lease ends at the clock
abbrev pub ends : ℕ → Option LeaseRecord → Bool
ends clock None = false
ends clock (Some l) = ends_at clock l

-- a command with this reply changes the fragment
abbrev pub touches : Command → Reply → Former → Bool
touches c (Placed seats) x = is_placed_wide c x
touches c (Placed6 seats) x = is_placed_narrow c x
touches c Dropped x = is_dropped c x
touches c (Granted l kind) x = same_stripe l.stripe x.stripe && same_fragment l.fragment x.fragment
touches c Ended x = is_let_go c x
touches c Changed x = is_emptied c x
touches c (Ticked clock ended) x = ends clock x.lease
touches c Idle x = false
touches c (Refused r) x = false

-- the fragment at a place, if the command changes it
abbrev pub touched_at : State → Command → Reply → ℕ → Option Former
touched_at st c r k = if touches c r (former st (place_at k)) then Some (former st (place_at k)) else None

-- ---- places, of which each stripe number has sixteen

-- those of a stripe: from the first number, and before the second
abbrev pub places_of : StripeNo → ℕ × ℕ
places_of s = (16 * s.value, 16 * s.value + 16)

-- those of all fragments that a command can change
abbrev pub reach_of : Command → ℕ × ℕ
reach_of (Place s) = places_of s
reach_of (Place6 s) = places_of s
reach_of (Drop s) = places_of s
reach_of (Done s f e) = places_of s
reach_of (Abandon s f e) = places_of s
reach_of (Revoke s f) = places_of s
reach_of (Fail n) = (0, 65536)
reach_of _ = (0, 0)

-- the same with this reply
abbrev pub reach : Command → Reply → ℕ × ℕ
reach c Idle = (0, 0)
reach c (Refused r) = (0, 0)
reach c (Granted l kind) = places_of l.stripe
reach c (Ticked clock ended) = if nat_eq ended 0 then (0, 0) else (0, 65536)
reach c _ = reach_of c
