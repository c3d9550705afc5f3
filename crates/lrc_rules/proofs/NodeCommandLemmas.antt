-- Commands on nodes: what the reply means, and the state after it, whichever of the seven it is.
use Rattle.std.proofs.Common.{◌≡◌, true, false, eqb, arith, List, Option, Some, None, IsSome, is_none, refl, sym, ap, ◌∙◌, subst}
use Rattle.std.specs.Option.{option_map_or}
use Rattle.std.proofs.lemmas.Bool.{or_parts, ltb-false}
use Rattle.lrc_code.specs.declared.numbers.NodeNo.{NodeNo}
use Rattle.lrc_code.specs.declared.numbers.SessionNo.{SessionNo}
use Rattle.lrc_topology.specs.declared.NodeInfo.{NodeInfo}
use Rattle.lrc_topology.specs.Nodes.{node_at}
use Rattle.lrc_rules.specs.declared.command.Command.{Command}
use Rattle.lrc_rules.specs.declared.command.Command.TheVariants.{Place}
use Rattle.lrc_rules.specs.declared.node_command.NodeCommand.{NodeCommand}
use Rattle.lrc_rules.specs.declared.node_command.NodeCommand.TheVariants.{Fail, Down, Up, Drain, Undrain, Retire, Join}
use Rattle.lrc_rules.specs.declared.reply.Reply.TheVariants.{Changed}
use Rattle.lrc_rules.specs.declared.refusal.Refusal.TheVariants as refusal
use Rattle.lrc_rules.specs.declared.entry.Entry.{Entry}
use Rattle.lrc_terms.specs.Modes.{is_gone}
use Rattle.lrc_rules.specs.States.{State, has_number, mode_of, is_down, load}
use Rattle.lrc_rules.specs.Outcomes.{Outcome}
use Rattle.lrc_rules.specs.Steps.{is_wrong_on, with_mode, emptied, emptied_if, changed_on, is_kept_by_load, node_outcome, node_command, step}
use Rattle.lrc_rules.specs.Goodness.{AreSeated}
use Rattle.lrc_rules.proofs.OutcomeLemmas.{passed-changed}
use Rattle.lrc_rules.proofs.ModeListLemmas.{added-apart, left-apart}
use Rattle.lrc_rules.proofs.SeatedLemmas.{emptied-load, emptied-seated, with_gone-seated, with_down-seated, without_down-seated, with_draining-seated, without_draining-seated, without_gone-seated}

-- ---- replies

module _ (nodes : List NodeInfo) (st : State) (command : NodeCommand) (n : NodeNo) where
  -- the store has the node, the command is not wrong, and no held seat keeps the node
  pub record IsAllowed : Type 0 where
    pub known : IsSome (node_at nodes n)
    pub right : is_wrong_on command st n ≡ false
    pub free : is_kept_by_load command st n ≡ false

  -- the command is done only if it is allowed
  pub done-allowed : (node_outcome nodes st command n).0 ≡ Changed → IsAllowed
  unfolding node_outcome
  done-allowed told =
      let known = passed-changed (is_none (node_at nodes n)) refusal.UnknownNode st _ told in
      let right = passed-changed (is_wrong_on command st n) refusal.WrongMode st _ known.1 in
      record {
        known = some-known (node_at nodes n) known.0;
        right = right.0;
        free = (passed-changed (is_kept_by_load command st n) (refusal.NotEmpty (load st n)) st (Changed, changed_on command st n) right.1).0;
      }
    where
      some-known : (o : Option NodeInfo) → is_none o ≡ false → IsSome o
      some-known (Some m) e = refl
      some-known None e = absurd (let never : true ≡ false = e in cc)

  -- and always if it is; then it leaves this state
  allowed-is : IsAllowed → node_outcome nodes st command n ≡ (Changed, changed_on command st n)
  unfolding node_outcome
  allowed-is a = rw (none-known (node_at nodes n) a.known, a.right, a.free) refl where
    none-known : (o : Option NodeInfo) → IsSome o → is_none o ≡ false
    none-known (Some m) known = refl
    none-known None known = absurd (let never : false ≡ true = known in cc)

  pub allowed-done : IsAllowed → (node_outcome nodes st command n).0 ≡ Changed
  allowed-done a = ap (λ (o : Outcome). o.0) (allowed-is a)

  -- what holds for the changed state holds after the command
  pub after-node : (P : State → Type 0) → (IsAllowed → P (changed_on command st n)) → (node_outcome nodes st command n).0 ≡ Changed
      → P (node_outcome nodes st command n).1
  after-node P so told = let a = done-allowed told in subst P (sym (ap (λ (o : Outcome). o.1) (allowed-is a))) (so a)

module _ (nodes : List NodeInfo) (past : List Entry) (st : State) (session : SessionNo) where
  -- the step of a command on a node
  step-by : (c : Command) → step nodes past st session c
      ≡ option_map_or (λ (on : NodeCommand × NodeNo). node_outcome nodes st on.0 on.1) (node_command c) (step nodes past st session c)
  step-by (Place s) = refl
  step-by c = refl

  -- a command of a session that changed a node was allowed
  pub step-allowed : (c : Command) (on : NodeCommand × NodeNo) → node_command c ≡ Some on → (step nodes past st session c).0 ≡ Changed
      → IsAllowed nodes st on.0 on.1
  step-allowed c on is told =
      done-allowed nodes st on.0 on.1
      (sym (ap (λ (o : Outcome). o.0) (step-by c ∙ ap (λ o. option_map_or (λ (x : NodeCommand × NodeNo). node_outcome nodes st x.0 x.1) o (step nodes past st session c)) is)) ∙ told)

-- ---- the other nodes

module _ (st : State) (m : NodeNo) where
  -- the node is in the same lists as before
  pub record IsAsItWas (next : State) : Type 0 where
    pub gone : has_number next.gone m ≡ has_number st.gone m
    pub draining : has_number next.draining m ≡ has_number st.draining m
    pub down : has_number next.down m ≡ has_number st.down m

module _ (st : State) (n m : NodeNo) (apart : eqb n.value m.value ≡ false) where
  -- the mode of one node changes, and that of another stays
  pub mode-apart : (command : NodeCommand) → IsAsItWas st m (with_mode command st n)
  mode-apart Fail = record {
    gone = added-apart st.gone n m apart;
    draining = left-apart st.draining n m apart;
    down = left-apart st.down n m apart;
  }
  mode-apart Retire = record {
    gone = added-apart st.gone n m apart;
    draining = left-apart st.draining n m apart;
    down = left-apart st.down n m apart;
  }
  mode-apart Down = record { gone = refl; draining = refl; down = added-apart st.down n m apart }
  mode-apart Up = record { gone = refl; draining = refl; down = left-apart st.down n m apart }
  mode-apart Drain = record { gone = refl; draining = added-apart st.draining n m apart; down = refl }
  mode-apart Undrain = record { gone = refl; draining = left-apart st.draining n m apart; down = refl }
  mode-apart Join = record { gone = left-apart st.gone n m apart; draining = refl; down = refl }

-- the same for all that the command changes
pub command-apart : (st : State) (n m : NodeNo) → eqb n.value m.value ≡ false → (command : NodeCommand) → IsAsItWas st m (changed_on command st n)
command-apart st n m apart Fail = let a = mode-apart (emptied st n) n m apart Fail in record { gone = a.gone; draining = a.draining; down = a.down }
command-apart st n m apart command = mode-apart st n m apart command

-- ---- seats

module _ (nodes : List NodeInfo) (st : State) (n : NodeNo) where
  -- a change of the mode keeps the seats in order
  pub mode-seated : (command : NodeCommand) → AreSeated nodes (emptied_if command st n) → IsAllowed nodes st command n → AreSeated nodes (changed_on command st n)
  mode-seated Fail seated allowed = with_gone-seated nodes (emptied st n) n seated (emptied-load nodes st n)
  mode-seated Down seated allowed = with_down-seated nodes st n seated (or_parts (is_gone (mode_of st n)) (is_down st n) allowed.right).0
  mode-seated Up seated allowed = without_down-seated nodes st n seated
  mode-seated Drain seated allowed = with_draining-seated nodes st n seated
  mode-seated Undrain seated allowed = without_draining-seated nodes st n seated
  mode-seated Retire seated allowed = with_gone-seated nodes st n seated (let low = ltb-false 0 (load st n) allowed.free in omega (arith, low))
  mode-seated Join seated allowed = without_gone-seated nodes st n seated

  emptied_if-seated : (command : NodeCommand) → AreSeated nodes st → AreSeated nodes (emptied_if command st n)
  emptied_if-seated Fail seated = emptied-seated nodes st n seated
  emptied_if-seated _ seated = seated

  -- and so does the command
  pub command-seated : (command : NodeCommand) → AreSeated nodes st → IsAllowed nodes st command n → AreSeated nodes (changed_on command st n)
  command-seated command seated = mode-seated command (emptied_if-seated command seated)
