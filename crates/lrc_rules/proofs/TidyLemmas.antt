-- Each command keeps a state tidy, from the empty store on.
use Rattle.std.proofs.Common.{[], ◌≡◌, ◌≤◌, inl, inr, not, List, ◌∷◌, ◌++◌, Option, Some, None, IfSome, IsSome, IsTrue, refl, sym, subst, arith}
use Rattle.std.specs.List.{All}
use Rattle.std.proofs.lemmas.List.Elements.{All-nil, All-filter, All-push, All-contains}
use Rattle.lrc_code.specs.declared.numbers.StripeNo.{StripeNo}
use Rattle.lrc_code.specs.declared.numbers.NodeNo.{NodeNo}
use Rattle.lrc_code.specs.declared.numbers.SessionNo.{SessionNo}
use Rattle.lrc_code.specs.declared.numbers.Fragment.{Fragment}
use Rattle.lrc_code.specs.Numbers.{same_node}
use Rattle.lrc_topology.specs.declared.NodeInfo.{NodeInfo}
use Rattle.lrc_topology.specs.Nodes.{node_at, has_domain}
use Rattle.lrc_terms.specs.declared.lease.Lease.{Lease as LeaseRecord}
use Rattle.lrc_rules.specs.declared.command.Command.{Command}
use Rattle.lrc_rules.specs.declared.command.Command.TheVariants.{Done, Upgrade, Upgraded}
use Rattle.lrc_rules.specs.declared.node_command.NodeCommand.{NodeCommand}
use Rattle.lrc_rules.specs.declared.node_command.NodeCommand.TheVariants as command
use Rattle.lrc_rules.specs.declared.reply.Reply.{Reply}
use Rattle.lrc_rules.specs.declared.reply.Reply.TheVariants.{Idle, Ended, Changed}
use Rattle.lrc_rules.specs.declared.entry.Entry.{Entry}
use Rattle.lrc_rules.specs.States.{State, opening, lease_of, without_number}
use Rattle.lrc_rules.specs.Outcomes.{Outcome}
use Rattle.lrc_rules.specs.Steps.{changed_on, node_command, step}
use Rattle.lrc_rules.specs.Changes.{with_done, changed_at, changed_by}
use Rattle.lrc_rules.specs.Histories.{World, next_world, state_from}
use Rattle.lrc_rules.specs.Tidiness.{AreOfStore, IsTidy}
use Rattle.lrc_rules.proofs.MemberLemmas.{All-members}
use Rattle.lrc_rules.proofs.StepLemmas.{step-changed}
use Rattle.lrc_rules.proofs.LeaseCountLemmas.{Follows, step-follows}
use Rattle.lrc_rules.proofs.NodeCommandLemmas.{step-allowed}
use Rattle.lrc_rules.proofs.SafeUpgradeLemmas.{upgrade-told}
use Rattle.lrc_rules.proofs.JoinedLemmas.{step-apart}

-- ---- leases

-- the epoch of each live lease is that of a grant
granted-by : (past : List Entry) (st : State) (o : Outcome) → Follows past st o → All (λ l. 1 ≤ l.epoch) st.leases → All (λ l. 1 ≤ l.epoch) o.1.leases
granted-by past st o (inr none) granted =
    All-members (λ l. 1 ≤ l.epoch) o.1.leases (λ l here. All-contains (λ k. 1 ≤ k.epoch) st.leases l granted (none.fewer l here))
granted-by past st o (inl grant) granted =
    let first : 1 ≤ grant.lease.epoch = let is = grant.epoch in omega (arith, is) in
    subst (All (λ l. 1 ≤ l.epoch)) (sym grant.leases) (All-push (λ l. 1 ≤ l.epoch) st.leases grant.lease granted first)

-- ---- nodes and domains

-- the store has the nodes that the state names, and the domain has a node
abbrev AreKnown : List NodeInfo → State → Type 0
AreKnown nodes st =
    IfSome st.upgrading (λ u. IsTrue (has_domain nodes u)) × AreOfStore nodes st.gone × AreOfStore nodes st.draining × AreOfStore nodes st.down

module _ (nodes : List NodeInfo) (st : State) (known : AreKnown nodes st) where
  more : (numbers : List NodeNo) (n : NodeNo) → AreOfStore nodes numbers → IsSome (node_at nodes n) → AreOfStore nodes (numbers ++ n ∷ [])
  more numbers n all own = All-push (λ m. IsSome (node_at nodes m)) numbers n all own

  fewer : (numbers : List NodeNo) (n : NodeNo) → AreOfStore nodes numbers → AreOfStore nodes (without_number numbers n)
  fewer numbers n all = All-filter (λ m. not (same_node n m)) (λ m. IsSome (node_at nodes m)) numbers all

  command-known : (c : NodeCommand) (n : NodeNo) → IsSome (node_at nodes n) → AreKnown nodes (changed_on c st n)
  command-known command.Fail n own = (known.0, more st.gone n known.1 own, fewer st.draining n known.2, fewer st.down n known.3)
  command-known command.Retire n own = (known.0, more st.gone n known.1 own, fewer st.draining n known.2, fewer st.down n known.3)
  command-known command.Down n own = (known.0, known.1, known.2, more st.down n known.3 own)
  command-known command.Up n own = (known.0, known.1, known.2, fewer st.down n known.3)
  command-known command.Drain n own = (known.0, known.1, more st.draining n known.2 own, known.3)
  command-known command.Undrain n own = (known.0, known.1, fewer st.draining n known.2, known.3)
  command-known command.Join n own = (known.0, fewer st.gone n known.1, known.2, known.3)

  done-known : (s : StripeNo) (f : Fragment) (o : Option LeaseRecord) → AreKnown nodes (with_done st s f o)
  done-known s f None = known
  done-known s f (Some l) = known

  module _ (past : List Entry) (session : SessionNo) where
    node-known : (c : Command) (on : Option (NodeCommand × NodeNo)) → node_command c ≡ on → (step nodes past st session c).0 ≡ Changed
        → AreKnown nodes (changed_at st on)
    node-known c None is told = known
    node-known c (Some on) is told = command-known on.0 on.1 (step-allowed nodes past st session c on is told).known

    changed-known : (c : Command) (r : Reply) → (step nodes past st session c).0 ≡ r → AreKnown nodes (changed_by st c r)
    changed-known (Done s f e) Ended told = done-known s f (lease_of st s f)
    changed-known (Upgrade u) Changed told = ((upgrade-told nodes st u Changed told).0, known.1, known.2, known.3)
    changed-known (Upgraded u) Changed told = (tt, known.1, known.2, known.3)
    changed-known c Changed told = node-known c (node_command c) refl told
    changed-known _ Idle told = known
    changed-known _ _ told = known

    step-known : (c : Command) → AreKnown nodes (step nodes past st session c).1
    step-known c = subst (AreKnown nodes) (sym (step-changed nodes past st session c)) (changed-known c (step nodes past st session c).0 refl)

-- ---- histories

pub step-tidy : (nodes : List NodeInfo) (past : List Entry) (st : State) (session : SessionNo) (c : Command) → IsTidy nodes st
    → IsTidy nodes (step nodes past st session c).1
step-tidy nodes past st session c tidy =
    let known = step-known nodes st (tidy.domain, tidy.gone, tidy.draining, tidy.down) past session c in
    record {
      domain = known.0;
      gone = known.1;
      draining = known.2;
      down = known.3;
      apart = step-apart st tidy.apart nodes past session c;
      granted = granted-by past st (step nodes past st session c) (step-follows nodes past st session c) tidy.granted;
    }

pub worlds-tidy : (nodes : List NodeInfo) (w : World) (history : List Entry) → IsTidy nodes w.state → IsTidy nodes (state_from nodes w history)
worlds-tidy nodes w [] tidy = tidy
worlds-tidy nodes w (e ∷ es) tidy = worlds-tidy nodes (next_world nodes w e) es (step-tidy nodes w.past w.state e.session e.command tidy)

pub opening-tidy : (nodes : List NodeInfo) → IsTidy nodes opening
opening-tidy nodes = record {
  domain = tt;
  gone = All-nil (λ n. IsSome (node_at nodes n));
  draining = All-nil (λ n. IsSome (node_at nodes n));
  down = All-nil (λ n. IsSome (node_at nodes n));
  apart = λ n here. refl;
  granted = All-nil (λ l. 1 ≤ l.epoch);
}
