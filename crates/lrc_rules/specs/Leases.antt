-- The replies to the commands on leases, and the states after them.
use Rattle.std.specs.Prelude.{ℕ, ◌+◌, Bool, true, false, not, ◌&&◌, if◌then◌else◌, nat_eq, List, [], ◌∷◌, ◌++◌, filter, count_by, Option, Some, None, is_none}
use Rattle.lrc_code.specs.declared.numbers.StripeNo.{StripeNo}
use Rattle.lrc_code.specs.declared.numbers.SessionNo.{SessionNo}
use Rattle.lrc_code.specs.declared.numbers.Fragment.{Fragment}
use Rattle.lrc_code.specs.Numbers.{same_stripe, same_fragment}
use Rattle.lrc_topology.specs.declared.NodeInfo.{NodeInfo}
use Rattle.lrc_topology.specs.declared.seat.Seat.{Seat}
use Rattle.lrc_terms.specs.declared.lease.Lease.{Lease}
use Rattle.lrc_terms.specs.Leased.{is_of, ends_at}
use Rattle.lrc_terms.specs.Stripes.{StripeFragment}
use Rattle.lrc_rules.specs.declared.command.Command.{Command}
use Rattle.lrc_rules.specs.declared.command.Command.TheVariants.{Done, Tick}
use Rattle.lrc_rules.specs.declared.reply.Reply.{Reply}
use Rattle.lrc_rules.specs.declared.reply.Reply.TheVariants.{Granted, Idle, Ended, Ticked}
use Rattle.lrc_rules.specs.declared.refusal.Refusal.TheVariants as refusal
use Rattle.lrc_rules.specs.declared.entry.Entry.{Entry}
use Rattle.lrc_rules.specs.States.{State, has_stripe, lease_of, is_home_of, online_at}
use Rattle.lrc_rules.specs.Placement.{chosen, with_home}
use Rattle.lrc_rules.specs.Repairs.{needs, kind, is_beyond_repair}
use Rattle.lrc_rules.specs.Urgency.{next_of}
use Rattle.lrc_rules.specs.Outcomes.{Outcome, refused, refuse_if}

-- ---- grants

-- the reply grants a lease of the fragment
abbrev pub is_grant : StripeNo → Fragment → Reply → Bool
is_grant s f (Granted lease kind) = is_of s f.value lease
is_grant s f _ = false

-- the number of leases granted for the fragment so far
abbrev pub grants : List Entry → StripeNo → Fragment → ℕ
grants past s f = count_by (λ e. is_grant s f e.reply) past

-- the number of ticks that a lease lasts
abbrev pub term : ℕ
term = 3

-- a new lease of the fragment for the session, with this seat as target
abbrev pub new_lease : List Entry → State → SessionNo → StripeNo → Fragment → Seat → Lease
new_lease past st session s f seat = record { stripe = s; fragment = f; holder = session; target = seat; epoch = grants past s f + 1; expiry = st.clock + term }

-- one more live lease
abbrev pub with_lease : State → Lease → State
with_lease st lease = record st { leases = st.leases ++ lease ∷ [] }

-- grant the lease on the chosen seat; refuse if no seat is chosen
abbrev pub granted : List NodeInfo → List Entry → State → SessionNo → StripeNo → Fragment → Option Seat → Outcome
granted nodes past st session s f (Some seat) = (Granted (new_lease past st session s f seat) (kind nodes st s f), with_lease st (new_lease past st session s f seat))
granted nodes past st session s f None = refused (refusal.NoLawfulNode f) st

-- the checks of Lease after the stripe is found: no live lease, a need for one, enough fragments to rebuild from, a
-- seat
abbrev pub lease_answer : List NodeInfo → List Entry → State → SessionNo → StripeNo → Fragment → Option Lease → Outcome
lease_answer nodes past st session s f (Some lease) = refused (refusal.AlreadyLeased lease.epoch) st
lease_answer nodes past st session s f None =
    refuse_if (not (needs nodes st s f)) refusal.NotNeeded st
    (refuse_if (is_beyond_repair nodes st s f) refusal.Unrecoverable st
    (granted nodes past st session s f (chosen nodes st s f)))

-- Lease: refused if the store has no such stripe
unfoldable pub lease_outcome : List NodeInfo → List Entry → State → SessionNo → StripeNo → Fragment → Outcome
lease_outcome nodes past st session s f = refuse_if (not (has_stripe st s)) refusal.UnknownStripe st (lease_answer nodes past st session s f (lease_of st s f))

-- Lease of this fragment, or Idle if there is none
abbrev pub next_answer : List NodeInfo → List Entry → State → SessionNo → Option StripeFragment → Outcome
next_answer nodes past st session (Some p) = lease_outcome nodes past st session p.0 p.1
next_answer nodes past st session None = (Idle, st)

-- Next: Lease of the most urgent fragment whose lease would be granted
unfoldable pub next_outcome : List NodeInfo → List Entry → State → SessionNo → Outcome
next_outcome nodes past st session = next_answer nodes past st session (next_of nodes st)

-- ---- the end of a lease

-- without the lease of the fragment
abbrev pub without_lease : State → StripeNo → Fragment → State
without_lease st s f = record st { leases = filter (λ l. not (is_of s f.value l)) st.leases }

-- without the home of the fragment
abbrev pub without_home : State → StripeNo → Fragment → State
without_home st s f = record st { homes = filter (λ h. not (is_home_of s f h)) st.homes }

-- the lease, if it has this epoch
abbrev pub at_epoch : ℕ → Option Lease → Option Lease
at_epoch e None = None
at_epoch e (Some lease) = if nat_eq lease.epoch e then Some lease else None

-- the session holds the lease
abbrev pub is_held_by : SessionNo → Lease → Bool
is_held_by session lease = nat_eq lease.holder.value session.value

-- the fragment has its only home on the target, and no lease
abbrev pub moved_in : State → StripeNo → Fragment → Seat → State
moved_in st s f target = with_home (without_home (without_lease st s f) s f) s f target

-- the checks of Done, given the live lease with the epoch: the session holds it, and its target is online
abbrev pub done_answer : List NodeInfo → State → SessionNo → StripeNo → Fragment → Option Lease → Outcome
done_answer nodes st session s f None = refused refusal.Stale st
done_answer nodes st session s f (Some lease) =
    refuse_if (not (is_held_by session lease)) (refusal.NotHolder lease.holder) st
    (refuse_if (not (online_at nodes st lease.target.node)) (refusal.TargetOffline lease.target.node) st
    (Ended, moved_in st s f lease.target))

-- Done: ends the lease with this epoch; its target becomes the fragment's home
unfoldable pub done_outcome : List NodeInfo → State → SessionNo → StripeNo → Fragment → ℕ → Outcome
done_outcome nodes st session s f e =
    refuse_if (not (has_stripe st s)) refusal.UnknownStripe st (done_answer nodes st session s f (at_epoch e (lease_of st s f)))

-- the check of Abandon, given the live lease with the epoch: the session holds it
abbrev pub abandon_answer : State → SessionNo → StripeNo → Fragment → Option Lease → Outcome
abandon_answer st session s f None = refused refusal.Stale st
abandon_answer st session s f (Some lease) =
    refuse_if (not (is_held_by session lease)) (refusal.NotHolder lease.holder) st (Ended, without_lease st s f)

-- Abandon: ends the lease with this epoch
unfoldable pub abandon_outcome : State → SessionNo → StripeNo → Fragment → ℕ → Outcome
abandon_outcome st session s f e = refuse_if (not (has_stripe st s)) refusal.UnknownStripe st (abandon_answer st session s f (at_epoch e (lease_of st s f)))

-- Revoke: ends the lease, whoever holds it
unfoldable pub revoke_outcome : State → StripeNo → Fragment → Outcome
revoke_outcome st s f =
    refuse_if (not (has_stripe st s)) refusal.UnknownStripe st
    (refuse_if (is_none (lease_of st s f)) refusal.NoLease st
    (Ended, without_lease st s f))

-- ---- the clock

-- the command is Tick
abbrev pub is_tick : Command → Bool
is_tick Tick = true
is_tick _ = false

-- the number of ticks so far
abbrev pub ticks : List Entry → ℕ
ticks past = count_by (λ e. is_tick e.command) past

-- without the leases that expire at this clock
abbrev pub without_ending : State → ℕ → State
without_ending st clock = record st { leases = filter (λ l. not (ends_at clock l)) st.leases }

-- the state one tick later, without the leases that expire then
abbrev pub ticked : State → State
ticked st = record (without_ending st (st.clock + 1)) { clock = st.clock + 1 }

-- Tick: replies with the new clock and the number of leases that ended; never refused
unfoldable pub tick_outcome : State → Outcome
tick_outcome st = (Ticked (st.clock + 1) (count_by (ends_at (st.clock + 1)) st.leases), ticked st)

-- ---- accepted Done commands

-- the command is Done of the fragment with this epoch
abbrev pub is_report : StripeNo → Fragment → ℕ → Command → Bool
is_report s f e (Done t g d) = same_stripe t s && same_fragment g f && nat_eq d e
is_report s f e _ = false

-- the reply says that a lease ended
abbrev pub is_ended : Reply → Bool
is_ended Ended = true
is_ended _ = false

-- the number of accepted Done commands for the fragment with this epoch, so far
abbrev pub reports_taken : List Entry → StripeNo → Fragment → ℕ → ℕ
reports_taken past s f e = count_by (λ x. is_report s f e x.command && is_ended x.reply) past
