-- Each command keeps the seats in order, from the empty store on.
use Rattle.std.proofs.Common.{◌≡◌, ◌≢◌, ◌+◌, ℕ, Bool, true, false, not, List, Option, Some, None, refl, sym, subst, arith}
use Rattle.std.specs.List.{Contains}
use Rattle.std.proofs.lemmas.List.Elements.{All-nil}
use Rattle.lrc_code.specs.declared.codes.Code.TheVariants.{Wide, Narrow}
use Rattle.lrc_code.specs.declared.numbers.NodeNo.{NodeNo}
use Rattle.lrc_code.specs.declared.numbers.StripeNo.{StripeNo}
use Rattle.lrc_code.specs.declared.numbers.SessionNo.{SessionNo}
use Rattle.lrc_code.specs.declared.numbers.Fragment.{Fragment}
use Rattle.lrc_topology.specs.declared.NodeInfo.{NodeInfo}
use Rattle.lrc_topology.specs.Nodes.{AreNodes}
use Rattle.lrc_rules.specs.declared.command.Command.{Command}
use Rattle.lrc_rules.specs.declared.command.Command.TheVariants.{Place, Place6, Drop, Lease, Next, Done, Abandon, Revoke, Upgrade, Upgraded, Tick}
use Rattle.lrc_rules.specs.declared.node_command.NodeCommand.{NodeCommand}
use Rattle.lrc_rules.specs.declared.reply.Reply.{Reply}
use Rattle.lrc_rules.specs.declared.reply.Reply.TheVariants.{Dropped, Idle, Ended, Changed, Ticked}
use Rattle.lrc_rules.specs.declared.entry.Entry.{Entry}
use Rattle.lrc_terms.specs.declared.mode.Mode.TheVariants.{Gone}
use Rattle.lrc_rules.specs.States.{State, opening, mode_of, lease_of}
use Rattle.lrc_rules.specs.Steps.{node_command, step}
use Rattle.lrc_rules.specs.Goodness.{IsStanding, AreSeated}
use Rattle.lrc_terms.specs.declared.lease.Lease.{Lease as LeaseRecord}
use Rattle.lrc_terms.specs.Leased.{ends_at}
use Rattle.lrc_rules.specs.Leases.{without_ending}
use Rattle.lrc_rules.specs.Changes.{with_done, changed_at, changed_by, asks_for_lease}
use Rattle.lrc_rules.proofs.SeatingLemmas.{IsWithin}
use Rattle.lrc_rules.proofs.LeaseGoodLemmas.{leases-seated, ended-seated, moved-seated}
use Rattle.lrc_rules.proofs.LeaseStepLemmas.{lease-seated, next-seated}
use Rattle.lrc_rules.proofs.StepLemmas.{step-changed}
use Rattle.lrc_rules.proofs.NodeCommandLemmas.{step-allowed, command-seated}
use Rattle.lrc_rules.proofs.SeatedLemmas.{place-seated, without-seated, upgrading-seated}

-- the command places a stripe
abbrev is_placing : Command → Bool
is_placing (Place s) = true
is_placing (Place6 s) = true
is_placing _ = false

pub opening-seated : (nodes : List NodeInfo) → AreSeated nodes opening
opening-seated nodes = record {
  stripes = λ i j d below within. absurd (omega arith);
  single = λ i j d below within. absurd (omega arith);
  standing = All-nil (IsStanding nodes opening);
  lawful = λ i j d below within. absurd (omega arith);
  one_home = λ i j d below within. absurd (omega arith);
  one_lease = λ i j d below within. absurd (omega arith);
  coded = All-nil (Contains opening.stripes);
  there = All-nil (λ h. Contains opening.stripes h.stripe);
  within = All-nil (IsWithin opening);
  reachable = All-nil (λ n. mode_of opening n ≢ Gone);
}

-- the seats stay in order as the clock advances
pub clocked-seated : (nodes : List NodeInfo) (st : State) (clock : ℕ) → AreSeated nodes st → AreSeated nodes (record st { clock = clock })
clocked-seated nodes st clock s = record {
  stripes = s.stripes;
  single = s.single;
  standing = s.standing;
  lawful = s.lawful;
  one_home = s.one_home;
  one_lease = s.one_lease;
  coded = s.coded;
  there = s.there;
  within = s.within;
  reachable = s.reachable;
}

module _ (nodes : List NodeInfo) (known : AreNodes nodes) (past : List Entry) (st : State) (session : SessionNo) (seated : AreSeated nodes st) where
  done-seated : (s : StripeNo) (f : Fragment) (o : Option LeaseRecord) → lease_of st s f ≡ o → AreSeated nodes (with_done st s f o)
  done-seated s f None live = seated
  done-seated s f (Some l) live = moved-seated nodes st s f l live seated

  node-seated : (c : Command) (on : Option (NodeCommand × NodeNo)) → node_command c ≡ on → (step nodes past st session c).0 ≡ Changed → AreSeated nodes (changed_at st on)
  node-seated c None is told = seated
  node-seated c (Some on) is told = command-seated nodes st on.1 on.0 seated (step-allowed nodes past st session c on is told)

  -- the state after a command that neither places a stripe nor asks for a lease
  changed-seated : (c : Command) (r : Reply) → (step nodes past st session c).0 ≡ r → is_placing c ≡ false → asks_for_lease c ≡ false
      → AreSeated nodes (changed_by st c r)
  changed-seated (Place s) r told other none = absurd (cc)
  changed-seated (Place6 s) r told other none = absurd (cc)
  changed-seated (Lease s f) r told other none = absurd (cc)
  changed-seated Next r told other none = absurd (cc)
  changed-seated (Drop s) Dropped told other none = without-seated nodes known st s seated
  changed-seated (Done s f e) Ended told other none = done-seated s f (lease_of st s f) refl
  changed-seated (Abandon s f e) Ended told other none = ended-seated nodes st s f seated
  changed-seated (Revoke s f) Ended told other none = ended-seated nodes st s f seated
  changed-seated (Upgrade u) Changed told other none = upgrading-seated nodes st (Some u) seated
  changed-seated (Upgraded u) Changed told other none = upgrading-seated nodes st None seated
  changed-seated c Changed told other none = node-seated c (node_command c) refl told
  changed-seated Tick (Ticked clock ended) told other none =
      clocked-seated nodes (without_ending st (st.clock + 1)) (st.clock + 1) (leases-seated nodes st (λ (l : LeaseRecord). not (ends_at (st.clock + 1) l)) seated)
  changed-seated _ Idle told other none = seated
  changed-seated _ _ told other none = seated

  other-seated : (c : Command) → is_placing c ≡ false → asks_for_lease c ≡ false → AreSeated nodes (step nodes past st session c).1
  other-seated c other none =
      subst (AreSeated nodes) (sym (step-changed nodes past st session c)) (changed-seated c (step nodes past st session c).0 refl other none)

-- Each command keeps the seats in order.
pub step-seated : (nodes : List NodeInfo) → AreNodes nodes → (past : List Entry) (st : State) (session : SessionNo) (command : Command)
    → AreSeated nodes st → AreSeated nodes (step nodes past st session command).1
step-seated nodes known past st session (Place s) seated = place-seated nodes known st s Wide seated
step-seated nodes known past st session (Place6 s) seated = place-seated nodes known st s Narrow seated
step-seated nodes known past st session (Lease s f) seated = lease-seated nodes known past st session s f seated
step-seated nodes known past st session Next seated = next-seated nodes known past st session seated
step-seated nodes known past st session c seated = other-seated nodes known past st session seated c refl refl
