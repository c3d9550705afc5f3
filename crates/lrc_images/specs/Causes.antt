-- Which images are states of a store with given nodes: the first row that is wrong, and why. Each row is asked over the
-- state of the rows before it.
use Rattle.std.specs.Prelude.{ℕ, ◌+◌, Bool, false, not, ◌&&◌, if◌then◌else◌, nat_lt, nat_le, nat_eq, List, [], ◌∷◌, ◌++◌, map, filter, flat_map, length, get_or, Option, Some, None, option_map, is_none}
use Rattle.std.specs.List.{list_any}
use Rattle.std.specs.Option.{option_or, option_map_or}
use Rattle.lrc_code.specs.Codes.{all_fragments, has_fragment}
use Rattle.lrc_topology.specs.declared.NodeInfo.{NodeInfo}
use Rattle.lrc_topology.specs.declared.seat.Held.{Held}
use Rattle.lrc_topology.specs.Nodes.{node_at, has_domain}
use Rattle.lrc_topology.specs.Seats.{is_taken}
use Rattle.lrc_rules.specs.States.{State, has_stripe, code_of, held_by, seats_of, taken_seats, mode_of}
use Rattle.lrc_terms.specs.Modes.{is_gone}
use Rattle.lrc_rules.specs.Placement.{bars}
use Rattle.lrc_rules.specs.Leases.{grants, term}
use Rattle.lrc_images.specs.declared.cause.Cause.{Cause}
use Rattle.lrc_images.specs.declared.cause.Cause.TheVariants as cause
use Rattle.lrc_images.specs.declared.image.NodeRow.{NodeRow}
use Rattle.lrc_images.specs.declared.image.StripeRow.{StripeRow}
use Rattle.lrc_images.specs.declared.image.GrantRow.{GrantRow}
use Rattle.lrc_images.specs.declared.image.LeaseRow.{LeaseRow}
use Rattle.lrc_images.specs.declared.image.Image.{Image}
use Rattle.lrc_images.specs.Images.{earlier, is_narrow, row_homes, row_lease, image_state}
use Rattle.lrc_images.specs.Rising.{node_first, stripe_first, grant_first, lease_first, tells_node, tells_grants}

-- ---- the most with which a book can begin, so that there is room for a history of 1,000,000 entries

-- of grants of a fragment
abbrev pub most_grants : ℕ
most_grants = 4293967294

-- of ticks
abbrev pub most_ticks : ℕ
most_ticks = 4293967291

-- of entries
abbrev pub most_entries : ℕ
most_entries = 9223372036854775808

-- ---- searches

-- this cause if the test holds, and otherwise the next one
abbrev pub cause_if : Bool → Cause → Option Cause → Option Cause
cause_if met cause next = if met then Some cause else next

-- the first answer for an element of a list; each is asked with the elements before it
abbrev pub first_answer : {X C : Type 0} → (List X → X → Option C) → List X → List X → Option C
first_answer ask before [] = None
first_answer ask before (x ∷ xs) = option_or (ask before x) (first_answer ask (before ++ x ∷ []) xs)

-- the cause with the position of its row, if the positions of the list start from this one
abbrev pub at_place : {X : Type 0} → ℕ → (List X → X → Option Cause) → List X → X → Option (ℕ × Cause)
at_place place ask before x = option_map (λ c. (place + length before, c)) (ask before x)

-- some earlier element does not come before this one
abbrev pub is_out_of_order : {X : Type 0} → (X → X → Bool) → List X → X → Bool
is_out_of_order first before x = list_any (λ b. not (first b x)) before

-- ---- what an image says beside its rows

abbrev pub head_cause : List NodeInfo → Image → Option Cause
head_cause nodes i =
    cause_if (option_map_or (λ u. not (has_domain nodes u)) i.upgrading false) cause.UnknownDomain
    (cause_if (nat_lt most_entries i.before) cause.TooManyEntries
    (cause_if (nat_lt most_ticks i.clock) cause.TooManyTicks None))

-- ---- nodes

abbrev pub node_cause : List NodeInfo → List NodeRow → NodeRow → Option Cause
node_cause nodes before r =
    cause_if (is_out_of_order node_first before r) cause.OutOfOrder
    (cause_if (not (tells_node r)) cause.SaysNothing
    (cause_if (is_none (node_at nodes r.node)) cause.UnknownNode
    (cause_if (is_gone r.mode && r.is_down) cause.GoneAndDown None)))

-- ---- seats

-- why the fragment cannot hold the slot of the node, if it has one
abbrev pub slot_cause : List NodeInfo → State → Held → Option NodeInfo → Option Cause
slot_cause nodes st h None = Some cause.UnknownNode
slot_cause nodes st h (Some n) =
    cause_if (not (nat_lt h.seat.slot n.slots)) cause.UnknownSlot
    (cause_if (is_gone (mode_of st h.seat.node)) cause.NodeGone
    (cause_if (is_taken (taken_seats st) h.seat.node h.seat.slot) cause.SeatTaken
    (cause_if (list_any (bars nodes st h.stripe h.fragment n) (seats_of st)) cause.NotLawful None)))

-- why the fragment cannot hold the seat, in this state
abbrev pub seat_cause : List NodeInfo → State → Held → Option Cause
seat_cause nodes st h =
    cause_if (not (has_fragment (code_of st h.stripe) h.fragment.value)) cause.UnknownFragment (slot_cause nodes st h (node_at nodes h.seat.node))

-- ---- stripes

-- the state of the image with these of its stripes, these homes and no lease
abbrev pub with_homes : Image → List StripeRow → List Held → State
with_homes i rows homes =
    record (image_state i) {
      stripes = map (λ r. r.stripe) rows;
      narrow = map (λ r. r.stripe) (filter (λ r. is_narrow r.code) rows);
      homes = homes;
      leases = [];
    }

-- the first cause of a home of the row; each is asked after the earlier ones are there
abbrev pub homes_cause : List NodeInfo → Image → List StripeRow → StripeRow → Option Cause
homes_cause nodes i before r =
    first_answer (λ homes h. seat_cause nodes (with_homes i (before ++ r ∷ []) (flat_map row_homes before ++ homes)) h) [] (row_homes r)

abbrev pub stripe_cause : List NodeInfo → Image → List StripeRow → StripeRow → Option Cause
stripe_cause nodes i before r = cause_if (is_out_of_order stripe_first before r) cause.OutOfOrder (homes_cause nodes i before r)

-- ---- grants

abbrev pub grant_cause : List GrantRow → GrantRow → Option Cause
grant_cause before r =
    cause_if (is_out_of_order grant_first before r) cause.OutOfOrder
    (cause_if (not (tells_grants r)) cause.SaysNothing
    (cause_if (list_any (λ f. nat_lt most_grants (get_or r.granted f.value 0)) all_fragments) cause.TooManyGrants None))

-- ---- leases

-- the state of the image with these of its leases
abbrev pub with_leases : Image → List LeaseRow → State
with_leases i rows = record (image_state i) { leases = map (row_lease (earlier i.grants.items)) rows }

abbrev pub lease_cause : List NodeInfo → Image → List LeaseRow → LeaseRow → Option Cause
lease_cause nodes i before r =
    cause_if (is_out_of_order lease_first before r) cause.OutOfOrder
    (cause_if (not (has_stripe (image_state i) r.stripe)) cause.UnknownStripe
    (cause_if (nat_eq (grants (earlier i.grants.items) r.stripe r.fragment) 0) cause.NeverGranted
    (cause_if (not (nat_lt i.clock r.expiry && nat_le r.expiry (i.clock + term))) cause.WrongExpiry
    (seat_cause nodes (with_leases i before) (held_by (row_lease (earlier i.grants.items) r))))))

-- ---- the image

-- The first cause, and the position of its row. The rows of all lists are counted from 1, those of the nodes first, then
-- those of the stripes, the grants and the leases; the position 0 is of what the image says beside its rows.
unfoldable pub first_cause : List NodeInfo → Image → Option (ℕ × Cause)
first_cause nodes i =
    let stripes_from = 1 + length i.nodes.items in
    let grants_from = stripes_from + length i.stripes.items in
    let leases_from = grants_from + length i.grants.items in
    option_or (option_map (λ c. (0, c)) (head_cause nodes i))
    (option_or (first_answer (at_place 1 (node_cause nodes)) [] i.nodes.items)
    (option_or (first_answer (at_place stripes_from (stripe_cause nodes i)) [] i.stripes.items)
    (option_or (first_answer (at_place grants_from grant_cause) [] i.grants.items)
    (first_answer (at_place leases_from (lease_cause nodes i)) [] i.leases.items))))
