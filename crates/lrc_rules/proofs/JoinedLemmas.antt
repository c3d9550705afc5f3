-- No node is both gone and draining, and what holds for a node that joins.
use Rattle.std.proofs.Common.{[], ◌≡◌, ◌≢◌, inl, inr, Bool, true, false, not, eqb, List, ◌∷◌, Option, Some, None, refl, sym, ap, ◌∙◌, subst}
use Rattle.std.specs.List.{All}
use Rattle.std.proofs.lemmas.Bool.{cases_Bool, true≢false, false_from_ne_true, eqb-true, eq-eqb}
use Rattle.lrc_code.specs.declared.numbers.StripeNo.{StripeNo}
use Rattle.lrc_code.specs.declared.numbers.NodeNo.{NodeNo}
use Rattle.lrc_code.specs.declared.numbers.SessionNo.{SessionNo}
use Rattle.lrc_code.specs.declared.numbers.Fragment.{Fragment}
use Rattle.lrc_code.specs.Numbers.{same_node}
use Rattle.lrc_code.proofs.NumbersLemmas.{equal_nodes}
use Rattle.lrc_topology.specs.declared.NodeInfo.{NodeInfo}
use Rattle.lrc_topology.specs.declared.seat.Seat.{Seat}
use Rattle.lrc_topology.specs.Nodes.{AreNodes}
use Rattle.lrc_terms.specs.declared.lease.Lease.{Lease as LeaseRecord}
use Rattle.lrc_terms.specs.declared.mode.Mode.TheVariants.{Active, Draining}
use Rattle.lrc_rules.specs.declared.command.Command.{Command}
use Rattle.lrc_rules.specs.declared.command.Command.TheVariants.{Done}
use Rattle.lrc_rules.specs.declared.node_command.NodeCommand.{NodeCommand}
use Rattle.lrc_rules.specs.declared.node_command.NodeCommand.TheVariants as command
use Rattle.lrc_rules.specs.declared.reply.Reply.{Reply}
use Rattle.lrc_rules.specs.declared.reply.Reply.TheVariants.{Idle, Ended, Changed}
use Rattle.lrc_rules.specs.declared.entry.Entry.{Entry}
use Rattle.lrc_terms.specs.Modes.{is_active, is_gone}
use Rattle.lrc_rules.specs.States.{State, lease_of, has_number, without_number, mode_of, is_down, taken_seats}
use Rattle.lrc_rules.specs.Steps.{without_gone, is_wrong_on, changed_on, node_outcome, node_command, step}
use Rattle.lrc_rules.specs.Changes.{with_done, changed_at, changed_by}
use Rattle.lrc_rules.specs.Histories.{World, IsLegal, first_world, next_world, world_from, state_after}
use Rattle.lrc_rules.specs.Goodness.{AreSeated}
use Rattle.lrc_rules.proofs.MemberLemmas.{list_any-member, member-list_any, All-members}
use Rattle.lrc_rules.proofs.StepLemmas.{step-changed}
use Rattle.lrc_rules.proofs.NodeCommandLemmas.{step-allowed, after-node, command-apart}
use Rattle.lrc_rules.proofs.SeatedLemmas.{seat-present, down-present}
use Rattle.lrc_rules.proofs.GoodLemmas.{state_after-good}
use Rattle.lrc_rules.proofs.NodeWordsLemmas.{left-here, gone-mode, active-mode, flips-false, active-there, gone-there, joined-here}

-- ---- no node is both gone and draining

abbrev pub NoneBoth : State → Type 0
NoneBoth st = (m : NodeNo) → has_number st.gone m ≡ true → has_number st.draining m ≡ false

never-both : (b : Bool) → b ≡ true → b ≡ false → ⊥
never-both b hit miss = (let both : true ≡ false = sym hit ∙ miss in cc)

module _ (st : State) (apart : NoneBoth st) where
  done-apart : (r : StripeNo) (g : Fragment) (o : Option LeaseRecord) → NoneBoth (with_done st r g o)
  done-apart r g None = apart
  done-apart r g (Some l) = apart

  drains-here : (n : NodeNo) → not (is_active (mode_of st n)) ≡ false → has_number st.gone n ≡ false
  drains-here n right =
      active-there (has_number st.gone n) (has_number st.draining n) (active-mode (mode_of st n) (flips-false (is_active (mode_of st n)) right))

  -- only a node that is not gone begins to drain
  both-here : (command : NodeCommand) (n : NodeNo) → is_wrong_on command st n ≡ false → has_number (changed_on command st n).gone n ≡ true
      → has_number (changed_on command st n).draining n ≡ false
  both-here command.Down n right gone = apart n gone
  both-here command.Up n right gone = apart n gone
  both-here command.Drain n right gone = absurd (never-both (has_number st.gone n) gone (drains-here n right))
  both-here command.Join n right gone = absurd (never-both (has_number (without_number st.gone n) n) gone (left-here st n st.gone))
  both-here _ n right gone = left-here st n st.draining

  pub command-both : (command : NodeCommand) (n : NodeNo) → is_wrong_on command st n ≡ false → NoneBoth (changed_on command st n)
  command-both command n right m gone = elim (cases_Bool (eqb n.value m.value)) [
    | inl same ↦
        let next = changed_on command st n in
        subst (λ (k : NodeNo). has_number next.gone k ≡ true → has_number next.draining k ≡ false) (equal_nodes n m (eqb-true n.value m.value same))
        (both-here command n right) gone
    | inr other ↦ let as_was = command-apart st n m other command in as_was.draining ∙ apart m (sym as_was.gone ∙ gone)
  ]

  module _ (nodes : List NodeInfo) (past : List Entry) (session : SessionNo) where
    node-both : (c : Command) (on : Option (NodeCommand × NodeNo)) → node_command c ≡ on → (step nodes past st session c).0 ≡ Changed → NoneBoth (changed_at st on)
    node-both c None is told = apart
    node-both c (Some on) is told = command-both on.0 on.1 (step-allowed nodes past st session c on is told).right

    changed-both : (c : Command) (r : Reply) → (step nodes past st session c).0 ≡ r → NoneBoth (changed_by st c r)
    changed-both (Done s f e) Ended told = done-apart s f (lease_of st s f)
    changed-both c Changed told = node-both c (node_command c) refl told
    changed-both _ Idle told = apart
    changed-both _ _ told = apart

    pub step-apart : (c : Command) → NoneBoth (step nodes past st session c).1
    step-apart c = subst NoneBoth (sym (step-changed nodes past st session c)) (changed-both c (step nodes past st session c).0 refl)

pub worlds-apart : (nodes : List NodeInfo) (w : World) (history : List Entry) → NoneBoth w.state → NoneBoth (world_from nodes w history).state
worlds-apart nodes w [] apart = apart
worlds-apart nodes w (e ∷ es) apart = worlds-apart nodes (next_world nodes w e) es (step-apart w.state apart nodes w.past e.session e.command)

state_after-apart : (nodes : List NodeInfo) (history : List Entry) → NoneBoth (state_after nodes history)
state_after-apart nodes history = worlds-apart nodes first_world history (λ m gone. refl)

-- so each node in the list `draining` has the mode Draining
pub draining-modes : (st : State) → NoneBoth st → All (λ (n : NodeNo). mode_of st n ≡ Draining) st.draining
draining-modes st apart = All-members (λ (n : NodeNo). mode_of st n ≡ Draining) st.draining (λ n here.
    let noted : has_number st.draining n ≡ true = list_any-member (same_node n) st.draining n here (eq-eqb n.value n.value refl) in
    let there = false_from_ne_true (has_number st.gone n) (λ gone. true≢false (sym noted ∙ apart n gone)) in rw (there, noted) refl)

pub all-draining : (nodes : List NodeInfo) (history : List Entry)
    → All (λ (n : NodeNo). mode_of (state_after nodes history) n ≡ Draining) (state_after nodes history).draining
all-draining nodes history = draining-modes (state_after nodes history) (state_after-apart nodes history)

-- ---- a node that joins

-- the node is active and not down, and has no held seat
pub record IsJoined (n : NodeNo) (next : State) : Type 0 where
  pub active : mode_of next n ≡ Active
  pub up : is_down next n ≡ false
  pub none : All (λ (seat : Seat). seat.node ≢ n) (taken_seats next)

module _ (nodes : List NodeInfo) (st : State) (n : NodeNo) (seated : AreSeated nodes st) (apart : NoneBoth st) where
  -- a node that is gone is active after it joined, not down, and has no held seat
  gone-joined : has_number st.gone n ≡ true → IsJoined n (without_gone st n)
  gone-joined gone = record {
    active = joined-here st n (apart n gone);
    up = false_from_ne_true (has_number st.down n) (λ down.
        let m = member-list_any (same_node n) st.down down in
        let number : n ≡ m.0 = equal_nodes n m.0 (eqb-true n.value m.0.value m.2) in
        true≢false (sym gone ∙ ap (has_number st.gone) number ∙ down-present nodes st n seated m.0 m.1));
    none = All-members (λ (seat : Seat). seat.node ≢ n) (taken_seats st) (λ seat here same.
        true≢false (sym gone ∙ ap (has_number st.gone) (sym same) ∙ seat-present nodes st n seated seat here));
  }

  pub joined-in : (node_outcome nodes st command.Join n).0 ≡ Changed → IsJoined n (node_outcome nodes st command.Join n).1
  joined-in told = after-node nodes st command.Join n (IsJoined n) (λ allowed.
      gone-joined (gone-there (has_number st.gone n) (has_number st.draining n) (gone-mode (mode_of st n) (flips-false (is_gone (mode_of st n)) allowed.right)))) told

pub joined-after : (nodes : List NodeInfo) (history : List Entry) (n : NodeNo) → AreNodes nodes → IsLegal nodes history
    → (node_outcome nodes (state_after nodes history) command.Join n).0 ≡ Changed → IsJoined n (node_outcome nodes (state_after nodes history) command.Join n).1
joined-after nodes history n known legal told =
    joined-in nodes (state_after nodes history) n (state_after-good nodes known history legal).seated (state_after-apart nodes history) told
