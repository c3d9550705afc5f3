-- Internal: no public clause reaches these definitions.
-- The lease that a report of a session names, or why the report is refused.
use Rattle.std.specs.Prelude.{ℕ, Bool, true, false, if◌then◌else◌, Option, Some, None, Result, Ok, Err}
use Rattle.lrc_code.specs.declared.numbers.StripeNo.{StripeNo}
use Rattle.lrc_code.specs.declared.numbers.SessionNo.{SessionNo}
use Rattle.lrc_code.specs.declared.numbers.Fragment.{Fragment}
use Rattle.lrc_terms.specs.declared.lease.Lease.{Lease}
use Rattle.lrc_rules.specs.declared.refusal.Refusal.{Refusal}
use Rattle.lrc_rules.specs.declared.refusal.Refusal.TheVariants as refusal
use Rattle.lrc_rules.specs.States.{State, has_stripe, lease_of}
use Rattle.lrc_rules.specs.Leases.{at_epoch, is_held_by}

-- the lease, if there is one and the session holds it
abbrev pub held_lease : SessionNo → Option Lease → Result Lease Refusal
held_lease session None = Err refusal.Stale
held_lease session (Some lease) = if is_held_by session lease then Ok lease else Err (refusal.NotHolder lease.holder)

-- the same, where the stripe is there
abbrev pub held_lease_if : Bool → SessionNo → Option Lease → Result Lease Refusal
held_lease_if false session lease = Err refusal.UnknownStripe
held_lease_if true session lease = held_lease session lease

-- the live lease that a session reports on by its epoch, or why the report is refused
abbrev pub reported : State → SessionNo → StripeNo → Fragment → ℕ → Result Lease Refusal
reported st session s f e = held_lease_if (has_stripe st s) session (at_epoch e (lease_of st s f))
