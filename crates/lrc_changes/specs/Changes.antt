-- What differs between two states, as rows: the fragments whose home or lease is another one.
use Rattle.std.specs.Prelude.{Bool, true, false, not, ◌&&◌, nat_eq, List, map, filter, replicate}
use Rattle.std.specs.Prelude.{Option, Some, None, is_some}
use Rattle.lrc_code.specs.Numbers.{same_stripe, same_fragment, same_node}
use Rattle.lrc_topology.specs.declared.seat.Seat.{Seat}
use Rattle.lrc_terms.specs.declared.lease.Lease.{Lease}
use Rattle.lrc_terms.specs.Levels.{homes_of}
use Rattle.lrc_terms.specs.Stripes.{StripeFragment}
use Rattle.lrc_rules.specs.States.{State, lease_of}
use Rattle.lrc_book.specs.Looks.{places}
use Rattle.lrc_records.specs.declared.lease.LrcLease.{LrcLease}
use Rattle.lrc_records.specs.Replies.{encoded_lease, no_lease}
use Rattle.lrc_records.specs.Shown.{flag, encoded_home}
use Rattle.lrc_changes.specs.declared.touch.Former.{Former}
use Rattle.lrc_changes.specs.declared.change.LrcChange.{LrcChange}

-- the home of a fragment
abbrev pub own_home : State → StripeFragment → Option Seat
own_home st p = homes_of st.homes p.0 p.1.value

-- its live lease
abbrev pub own_lease : State → StripeFragment → Option Lease
own_lease st p = lease_of st p.0 p.1

-- both are the same slot of the same node
abbrev pub is_same_seat : Seat → Seat → Bool
is_same_seat a b = same_node a.node b.node && nat_eq a.slot b.slot

-- both are the same seat, or there is neither
abbrev pub is_same_home : Option Seat → Option Seat → Bool
is_same_home None None = true
is_same_home (Some a) (Some b) = is_same_seat a b
is_same_home _ _ = false

-- both are the same lease, or there is neither
abbrev pub is_same_lease : Option Lease → Option Lease → Bool
is_same_lease None None = true
is_same_lease (Some a) (Some b) =
    same_stripe a.stripe b.stripe && (same_fragment a.fragment b.fragment && (nat_eq a.holder.value b.holder.value
    && (is_same_seat a.target b.target && (nat_eq a.epoch b.epoch && nat_eq a.expiry b.expiry))))
is_same_lease _ _ = false

-- the home or the lease of the fragment is another one, or is in one of the two states alone
abbrev pub is_changed : State → State → StripeFragment → Bool
is_changed was now p =
    not (is_same_home (own_home was p) (own_home now p) && is_same_lease (own_lease was p) (own_lease now p))

-- of all fragments of all stripe numbers those whose home or lease is another one, in rising order of stripe and
-- fragment
unfoldable pub changed : State → State → List StripeFragment
changed was now = filter (is_changed was now) places

-- ---- rows

-- a fragment, as it is in a state
abbrev pub former : State → StripeFragment → Former
former st p = record { stripe = p.0; fragment = p.1; home = own_home st p; lease = own_lease st p }

-- the struct of a lease; all is 0 without one
abbrev pub lease_record : Option Lease → LrcLease
lease_record (Some l) = encoded_lease l
lease_record None = no_lease

-- the row of a fragment that was like this, and then has this home and this lease
abbrev pub encoded_change : Former → Option Seat → Option Lease → LrcChange
encoded_change x home lease = record {
  stripe = x.stripe.value;
  fragment = x.fragment.value;
  was_leased = flag (is_some x.lease);
  is_leased = flag (is_some lease);
  reserved = replicate 3 0;
  home_before = encoded_home x.home;
  home_after = encoded_home home;
  lease_before = lease_record x.lease;
  lease_after = lease_record lease;
}

-- the row of a fragment that was like this, as it is in a state
abbrev pub row_now : State → Former → LrcChange
row_now now x = encoded_change x (own_home now (x.stripe, x.fragment)) (own_lease now (x.stripe, x.fragment))

-- the rows of what differs between two states
abbrev pub changes : State → State → List LrcChange
changes was now = map (λ p. row_now now (former was p)) (changed was now)
