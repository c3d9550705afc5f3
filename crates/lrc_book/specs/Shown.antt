-- What an entry changes of the published view: the levels of the stripes, and the loads of the nodes.
use Rattle.std.specs.Prelude.{◌≡◌, ◌+◌, Bool, true, false, IsFalse, ◌&&◌}
use Rattle.std.specs.Prelude.{List, [], ◌∷◌, ◌++◌, map, filter, Option, Some, None}
use Rattle.lrc_code.specs.declared.numbers.StripeNo.{StripeNo}
use Rattle.lrc_code.specs.declared.numbers.NodeNo.{NodeNo}
use Rattle.lrc_code.specs.Numbers.{same_stripe}
use Rattle.lrc_topology.specs.declared.seat.Seat.{Seat}
use Rattle.lrc_topology.specs.declared.seat.Held.{Held}
use Rattle.lrc_topology.specs.Seats.{load_of}
use Rattle.lrc_terms.specs.declared.lease.Lease.{Lease as LeaseRecord}
use Rattle.lrc_terms.specs.Leased.{is_of, ends_at}
use Rattle.lrc_rules.specs.declared.command.Command.{Command}
use Rattle.lrc_rules.specs.declared.command.Command.TheVariants.{Place, Place6, Drop, Lease, Next}
use Rattle.lrc_rules.specs.declared.command.Command.TheVariants.{Done, Abandon, Revoke, Fail, Tick}
use Rattle.lrc_rules.specs.declared.reply.Reply.{Reply}
use Rattle.lrc_rules.specs.declared.reply.Reply.TheVariants.{Placed, Placed6, Dropped, Granted}
use Rattle.lrc_rules.specs.declared.reply.Reply.TheVariants.{Idle, Ended, Changed, Ticked, Refused}
use Rattle.lrc_rules.specs.declared.entry.Entry.{Entry}
use Rattle.lrc_rules.specs.States.{State, is_home_of, lease_of, load, level_shown}
use Rattle.lrc_rules.specs.Steps.{stands_on, hangs_on}
use Rattle.lrc_rules.specs.Touching.{can_change_level}
use Rattle.lrc_book.specs.Books.{BookView, state_of, state_after_entry}

-- the reply reports a change: it is neither a refusal nor Idle
abbrev pub is_change : Reply → Bool
is_change Idle = false
is_change (Refused r) = false
is_change _ = true

-- ---- seats

-- the seats of the homes that pass the test
abbrev pub homes_passing : State → (Held → Bool) → List Seat
homes_passing st test = map (λ h. h.seat) (filter test st.homes)

-- the targets of the live leases that pass the test
abbrev pub targets_passing : State → (LeaseRecord → Bool) → List Seat
targets_passing st test = map (λ l. l.target) (filter test st.leases)

-- the target of a lease, if there is one
abbrev pub target_in : Option LeaseRecord → List Seat
target_in None = []
target_in (Some l) = l.target ∷ []

-- The seats that the command with this reply takes: those of a placed stripe, the target of a granted lease, and the
-- target of a lease that ends with Done, as the new home of its fragment.
abbrev pub new_seats : State → Command → Reply → List Seat
new_seats st (Place s) (Placed seats) = seats
new_seats st (Place6 s) (Placed6 seats) = seats
new_seats st (Lease s f) (Granted l kind) = l.target ∷ []
new_seats st Next (Granted l kind) = l.target ∷ []
new_seats st (Done s f e) Ended = target_in (lease_of st s f)
new_seats st _ _ = []

-- The seats that it frees: homes, and the targets of the leases that end.
abbrev pub freed_seats : State → Command → Reply → List Seat
freed_seats st (Drop s) Dropped =
    homes_passing st (λ h. same_stripe s h.stripe) ++ targets_passing st (λ l. same_stripe s l.stripe)
freed_seats st (Done s f e) Ended = homes_passing st (is_home_of s f) ++ targets_passing st (is_of s f.value)
freed_seats st (Abandon s f e) Ended = targets_passing st (is_of s f.value)
freed_seats st (Revoke s f) Ended = targets_passing st (is_of s f.value)
freed_seats st (Fail m) Changed = homes_passing st (stands_on m) ++ targets_passing st (hangs_on st m)
freed_seats st Tick (Ticked clock ended) = targets_passing st (ends_at (st.clock + 1))
freed_seats st _ _ = []

-- ---- the view after an entry

-- What the published view shows after the entry, by what it showed before: a command that is refused or Idle changes
-- nothing. Any other changes at most the levels that `can_change_level` names. The load of each node changes by
-- exactly the seats that the entry takes and frees.
pub record IsShownAfter (b : BookView) (e : Entry) : Type 0 where
  pub unchanged : IsFalse (is_change e.reply) → state_after_entry b e ≡ state_of b
  pub levels : (s : StripeNo) → IsFalse (is_change e.reply && can_change_level b.nodes (state_of b) s e.command)
      → level_shown b.nodes (state_after_entry b e) s ≡ level_shown b.nodes (state_of b) s
  pub loads : (n : NodeNo) → load (state_after_entry b e) n + load_of (freed_seats (state_of b) e.command e.reply) n
      ≡ load (state_of b) n + load_of (new_seats (state_of b) e.command e.reply) n
