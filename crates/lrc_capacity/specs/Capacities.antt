-- How many more stripes of a code the rules place, and why no more.
use Rattle.std.specs.Prelude.{◌≢◌, ℕ, ◌+◌, ◌-◌, Bool, true, false, not, ◌&&◌, if◌then◌else◌, nat_lt, IsFalse}
use Rattle.std.specs.Prelude.{List, [], ◌∷◌, All, AllPairs, fold, count_by, sum_by, Option, Some, None, option_map, is_some}
use Rattle.std.specs.List.{list_any}
use Rattle.std.specs.Option.{option_map_or}
use Rattle.lrc_code.specs.declared.codes.Code.{Code}
use Rattle.lrc_code.specs.declared.numbers.StripeNo.{StripeNo}
use Rattle.lrc_code.specs.declared.numbers.Fragment.{Fragment}
use Rattle.lrc_code.specs.Numbers.{same_fault}
use Rattle.lrc_code.specs.Codes.{fragments}
use Rattle.lrc_topology.specs.declared.NodeInfo.{NodeInfo}
use Rattle.lrc_topology.specs.declared.seat.Held.{Held}
use Rattle.lrc_topology.specs.Nodes.{node_at}
use Rattle.lrc_terms.specs.Modes.{is_active}
use Rattle.lrc_terms.specs.Stripes.{StripeFragment}
use Rattle.lrc_rules.specs.declared.reply.Reply.{Reply}
use Rattle.lrc_rules.specs.declared.reply.Reply.TheVariants.{Placed, Placed6, Refused}
use Rattle.lrc_rules.specs.declared.refusal.Refusal.TheVariants as refusal
use Rattle.lrc_rules.specs.States.{State, has_stripe, seats_of, load, mode_of, is_online, takes_seats}
use Rattle.lrc_rules.specs.Placement.{is_beside, bars, chosen, with_home}
use Rattle.lrc_rules.specs.Outcomes.{Outcome}
use Rattle.lrc_rules.specs.Steps.{with_stripe, place_outcome}
use Rattle.lrc_capacity.specs.declared.room.NodeRoom.{NodeRoom}
use Rattle.lrc_capacity.specs.declared.shortage.Shortage.{Shortage}
use Rattle.lrc_capacity.specs.declared.capacity.Capacity.{Capacity}

-- what is read of a node
abbrev pub room_of : State → NodeInfo → NodeRoom
room_of st n = record {
  node = n;
  is_active = is_active (mode_of st n.number);
  is_online = is_online st n;
  load = load st n.number;
}

-- the state has none of these stripes, and none of them is listed twice
pub record AreUnused (st : State) (numbers : List StripeNo) : Type 0 where
  pub absent : All (λ s. IsFalse (has_stripe st s)) numbers
  pub distinct : AllPairs (λ s t. s ≢ t) numbers

-- ---- stripes placed one after the other, until the first refusal

-- how many were placed, the state then, and the stripe and the fragment that was refused, if one was
pub record Filling : Type 0 where
  pub count : ℕ
  pub state : State
  pub refused : Option StripeFragment

-- the command was taken
abbrev pub is_placed : Reply → Bool
is_placed (Placed seats) = true
is_placed (Placed6 seats) = true
is_placed _ = false

-- the fragment that has no lawful node
abbrev pub refused_fragment : Reply → Option Fragment
refused_fragment (Refused (refusal.NoLawfulNode f)) = Some f
refused_fragment _ = None

-- after the outcome of the command that places this stripe
abbrev pub after_reply : Filling → StripeNo → Outcome → Filling
after_reply x s o = record {
  count = if is_placed o.0 then x.count + 1 else x.count;
  state = o.1;
  refused = option_map (λ f. (s, f)) (refused_fragment o.0);
}

-- after `Place`, or `Place6`, of one more stripe: the step's outcome, unless an earlier one was refused
abbrev pub place_more : List NodeInfo → Code → Filling → StripeNo → Filling
place_more nodes code x s = if is_some x.refused then x else after_reply x s (place_outcome nodes x.state code s)

-- after such commands for these stripes, in order
abbrev pub filling : List NodeInfo → State → Code → List StripeNo → Filling
filling nodes st code numbers = fold (place_more nodes code) (record { count = 0; state = st; refused = None }) numbers

-- ---- why a fragment has no node

-- these fragments of a stripe placed one after the other, up to the first that finds no seat
abbrev pub placed_until : List NodeInfo → StripeNo → State → List Fragment → State
placed_until nodes s st [] = st
placed_until nodes s st (f ∷ fs) =
    option_map_or (λ seat. placed_until nodes s (with_home st s f seat) fs) (chosen nodes st s f) st

-- the node takes seats, and has a free slot
abbrev pub has_room : State → NodeInfo → Bool
has_room st n = takes_seats st n && nat_lt (load st n.number) n.slots

-- the held seat is of another fragment of the stripe, and in the node's fault domain
abbrev pub is_in_fault_of : List NodeInfo → StripeNo → Fragment → NodeInfo → Held → Bool
is_in_fault_of nodes s f n h =
    is_beside s f h && option_map_or (λ m. same_fault n.fault m.fault) (node_at nodes h.seat.node) false

-- another fragment of the stripe is in the node's fault domain
abbrev pub is_fault_taken : List NodeInfo → State → StripeNo → Fragment → NodeInfo → Bool
is_fault_taken nodes st s f n = list_any (is_in_fault_of nodes s f n) (seats_of st)

-- How many nodes each condition rules out for the fragment, a node under the first of its conditions: it is not active;
-- it is offline; it has no free slot; another fragment of the stripe is in its fault domain; or another rules it out
-- by its upgrade domain.
abbrev pub shortage : List NodeInfo → State → StripeNo → Fragment → Shortage
shortage nodes st s f = record {
  fragment = f;
  not_active = count_by (λ n. not (is_active (mode_of st n.number))) nodes;
  offline = count_by (λ n. is_active (mode_of st n.number) && not (is_online st n)) nodes;
  full = count_by (λ n. takes_seats st n && not (nat_lt (load st n.number) n.slots)) nodes;
  fault_domain = count_by (λ n. has_room st n && is_fault_taken nodes st s f n) nodes;
  upgrade_domain = count_by (λ n. (has_room st n && not (is_fault_taken nodes st s f n))
      && list_any (bars nodes st s f n) (seats_of st)) nodes;
}

-- the same where the fragments before it are placed
abbrev pub shortage_at : List NodeInfo → State → Code → StripeNo → Fragment → Shortage
shortage_at nodes st code s f = shortage nodes (placed_until nodes s (with_stripe st code s) (fragments code)) s f

-- ---- capacity

-- the free slots of the nodes that take seats
abbrev pub free_slots : List NodeInfo → State → ℕ
free_slots nodes st = sum_by (λ n. if takes_seats st n then n.slots - load st n.number else 0) nodes

-- how many stripes were placed, why the next was not, and the slots that stay free
abbrev pub capacity_after : List NodeInfo → Code → Filling → Capacity
capacity_after nodes code x = record {
  stripes = x.count;
  shortage = option_map (λ p. shortage_at nodes x.state code p.0 p.1) x.refused;
  free_slots = free_slots nodes x.state;
}

-- how many stripes of the code are placed, with these numbers in order
abbrev pub capacity : List NodeInfo → State → Code → List StripeNo → Capacity
capacity nodes st code numbers = capacity_after nodes code (filling nodes st code numbers)
