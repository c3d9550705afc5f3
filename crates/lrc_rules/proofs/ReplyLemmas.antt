-- Which kinds of replies a command can get.
use Rattle.std.proofs.Common.{◌≡◌, Bool, true, false, not, is_none, List, Option, Some, None, Result, Ok, Err, ℕ, refl}
use Rattle.lrc_code.specs.declared.codes.Code.{Code}
use Rattle.lrc_code.specs.declared.codes.Code.TheVariants.{Wide, Narrow}
use Rattle.lrc_code.specs.declared.numbers.StripeNo.{StripeNo}
use Rattle.lrc_code.specs.declared.numbers.NodeNo.{NodeNo}
use Rattle.lrc_code.specs.declared.numbers.UpgradeNo.{UpgradeNo}
use Rattle.lrc_code.specs.declared.numbers.SessionNo.{SessionNo}
use Rattle.lrc_code.specs.declared.numbers.Fragment.{Fragment}
use Rattle.lrc_topology.specs.declared.NodeInfo.{NodeInfo}
use Rattle.lrc_topology.specs.declared.seat.Seat.{Seat}
use Rattle.lrc_topology.specs.Nodes.{node_at, has_domain}
use Rattle.lrc_terms.specs.Stripes.{StripeFragment}
use Rattle.lrc_terms.specs.declared.lease.Lease.{Lease as LeaseRecord}
use Rattle.lrc_rules.specs.declared.command.Command.{Command}
use Rattle.lrc_rules.specs.declared.command.Command.TheVariants.{Place, Place6, Drop, Lease, Next, Done, Abandon, Revoke, Upgrade, Upgraded, Tick}
use Rattle.lrc_rules.specs.declared.node_command.NodeCommand.{NodeCommand}
use Rattle.lrc_rules.specs.declared.reply.Reply.TheVariants.{Dropped, Ended, Changed}
use Rattle.lrc_rules.specs.declared.refusal.Refusal.{Refusal}
use Rattle.lrc_rules.specs.declared.refusal.Refusal.TheVariants as refusal
use Rattle.lrc_rules.specs.declared.entry.Entry.{Entry}
use Rattle.lrc_rules.specs.States.{State, has_stripe, lease_of, load, online_at}
use Rattle.lrc_rules.specs.Urgency.{next_of}
use Rattle.lrc_rules.specs.Repairs.{needs, is_beyond_repair}
use Rattle.lrc_rules.specs.Placement.{chosen, placed}
use Rattle.lrc_rules.specs.Outcomes.{Outcome, refuse_if}
use Rattle.lrc_rules.specs.Leases.{tick_outcome, granted, lease_answer, lease_outcome, next_answer, next_outcome, without_lease, at_epoch, is_held_by, moved_in, done_answer, done_outcome, abandon_answer, abandon_outcome, revoke_outcome}
use Rattle.lrc_rules.specs.Steps.{with_stripe, place_command, place_answer, place_outcome, without_stripe, drop_outcome, is_wrong_on, changed_on, is_kept_by_load, node_outcome, without_upgrading, would_lose, upgrade_answer, upgrade_outcome, is_the_domain, upgraded_outcome, step}
use Rattle.lrc_rules.specs.Changes.{asks_for_lease, can_get}

abbrev Gets : Command → Outcome → Type 0
Gets c o = can_get c o.0 ≡ true

gets-if : (c : Command) (met : Bool) (r : Refusal) (st : State) (other : Outcome) → Gets c other → Gets c (refuse_if met r st other)
gets-if c true r st other next = refl
gets-if c false r st other next = next

gets-place : (nodes : List NodeInfo) (st : State) (code : Code) (s : StripeNo) → Gets (place_command code s) (place_outcome nodes st code s)
unfolding place_outcome
gets-place nodes st code s =
    gets-if (place_command code s) (has_stripe st s) refusal.StripeExists st _ (by code (placed nodes (with_stripe st code s) s))
  where
    by : (code : Code) (r : Result State Fragment) → Gets (place_command code s) (place_answer st code r)
    by code (Err f) = refl
    by Wide (Ok done) = refl
    by Narrow (Ok done) = refl

gets-drop : (st : State) (s : StripeNo) → Gets (Drop s) (drop_outcome st s)
unfolding drop_outcome
gets-drop st s = gets-if (Drop s) (not (has_stripe st s)) refusal.UnknownStripe st (Dropped, without_stripe st s) refl

gets-node : (nodes : List NodeInfo) (st : State) (command : NodeCommand) (n : NodeNo) (c : Command) → can_get c Changed ≡ true
    → Gets c (node_outcome nodes st command n)
unfolding node_outcome
gets-node nodes st command n c can =
    gets-if c (is_none (node_at nodes n)) refusal.UnknownNode st _
    (gets-if c (is_wrong_on command st n) refusal.WrongMode st _
    (gets-if c (is_kept_by_load command st n) (refusal.NotEmpty (load st n)) st (Changed, changed_on command st n) can))

module _ (nodes : List NodeInfo) (past : List Entry) (st : State) (session : SessionNo) where
  gets-lease : (c : Command) (s : StripeNo) (f : Fragment) → asks_for_lease c ≡ true → Gets c (lease_outcome nodes past st session s f)
  unfolding lease_outcome
  gets-lease c s f asks = gets-if c (not (has_stripe st s)) refusal.UnknownStripe st _ (by (lease_of st s f)) where
    seated : (o : Option Seat) → Gets c (granted nodes past st session s f o)
    seated None = refl
    seated (Some seat) = asks

    by : (o : Option LeaseRecord) → Gets c (lease_answer nodes past st session s f o)
    by (Some l) = refl
    by None =
        gets-if c (not (needs nodes st s f)) refusal.NotNeeded st _
        (gets-if c (is_beyond_repair nodes st s f) refusal.Unrecoverable st _ (seated (chosen nodes st s f)))

  gets-next : Gets Next (next_outcome nodes past st session)
  unfolding next_outcome
  gets-next = by (next_of nodes st) where
    by : (o : Option StripeFragment) → Gets Next (next_answer nodes past st session o)
    by (Some p) = gets-lease Next p.0 p.1 refl
    by None = refl

  gets-done : (s : StripeNo) (f : Fragment) (e : ℕ) → Gets (Done s f e) (done_outcome nodes st session s f e)
  unfolding done_outcome
  gets-done s f e = gets-if (Done s f e) (not (has_stripe st s)) refusal.UnknownStripe st _ (by (at_epoch e (lease_of st s f))) where
    by : (o : Option LeaseRecord) → Gets (Done s f e) (done_answer nodes st session s f o)
    by None = refl
    by (Some l) =
        gets-if (Done s f e) (not (is_held_by session l)) (refusal.NotHolder l.holder) st _
        (gets-if (Done s f e) (not (online_at nodes st l.target.node)) (refusal.TargetOffline l.target.node) st (Ended, moved_in st s f l.target) refl)

  gets-abandon : (s : StripeNo) (f : Fragment) (e : ℕ) → Gets (Abandon s f e) (abandon_outcome st session s f e)
  unfolding abandon_outcome
  gets-abandon s f e = gets-if (Abandon s f e) (not (has_stripe st s)) refusal.UnknownStripe st _ (by (at_epoch e (lease_of st s f))) where
    by : (o : Option LeaseRecord) → Gets (Abandon s f e) (abandon_answer st session s f o)
    by None = refl
    by (Some l) = gets-if (Abandon s f e) (not (is_held_by session l)) (refusal.NotHolder l.holder) st (Ended, without_lease st s f) refl

  gets-revoke : (s : StripeNo) (f : Fragment) → Gets (Revoke s f) (revoke_outcome st s f)
  unfolding revoke_outcome
  gets-revoke s f =
      gets-if (Revoke s f) (not (has_stripe st s)) refusal.UnknownStripe st _
      (gets-if (Revoke s f) (is_none (lease_of st s f)) refusal.NoLease st (Ended, without_lease st s f) refl)

  gets-upgrade : (u : UpgradeNo) → Gets (Upgrade u) (upgrade_outcome nodes st u)
  unfolding upgrade_outcome
  gets-upgrade u = gets-if (Upgrade u) (not (has_domain nodes u)) refusal.UnknownDomain st _ (by st.upgrading (would_lose nodes st u)) where
    by : (o : Option UpgradeNo) (lost : Option StripeNo) → Gets (Upgrade u) (upgrade_answer st u o lost)
    by (Some v) lost = refl
    by None (Some s) = refl
    by None None = refl

  gets-upgraded : (u : UpgradeNo) → Gets (Upgraded u) (upgraded_outcome nodes st u)
  unfolding upgraded_outcome
  gets-upgraded u =
      gets-if (Upgraded u) (not (has_domain nodes u)) refusal.UnknownDomain st _
      (gets-if (Upgraded u) (not (is_the_domain u st.upgrading)) refusal.NotUpgrading st (Changed, without_upgrading st) refl)

  -- the reply to a command is of a kind that it can get
  pub step-gets : (c : Command) → Gets c (step nodes past st session c)
  unfolding tick_outcome
  step-gets (Place s) = gets-place nodes st Wide s
  step-gets (Place6 s) = gets-place nodes st Narrow s
  step-gets (Drop s) = gets-drop st s
  step-gets (Lease s f) = gets-lease (Lease s f) s f refl
  step-gets Next = gets-next
  step-gets (Done s f e) = gets-done s f e
  step-gets (Abandon s f e) = gets-abandon s f e
  step-gets (Revoke s f) = gets-revoke s f
  step-gets (Upgrade u) = gets-upgrade u
  step-gets (Upgraded u) = gets-upgraded u
  step-gets Tick = refl
  step-gets c = gets-node nodes st _ _ c refl
