-- A command on another node changes neither the mode of a node nor whether it is down.
use Rattle.std.proofs.Common.{◌≡◌, ap₂, Bool, false, if◌then◌else◌, eqb, List, Option, Some, None, IsSomeAnd, refl, sym, subst}
use Rattle.std.proofs.lemmas.Bool.{ne_eqb}
use Rattle.lrc_code.specs.declared.numbers.StripeNo.{StripeNo}
use Rattle.lrc_code.specs.declared.numbers.NodeNo.{NodeNo}
use Rattle.lrc_code.specs.declared.numbers.SessionNo.{SessionNo}
use Rattle.lrc_code.specs.declared.numbers.Fragment.{Fragment}
use Rattle.lrc_code.proofs.NumbersLemmas.{equal_nodes}
use Rattle.lrc_topology.specs.declared.NodeInfo.{NodeInfo}
use Rattle.lrc_terms.specs.declared.lease.Lease.{Lease as LeaseRecord}
use Rattle.lrc_terms.specs.declared.mode.Mode.TheVariants.{Active, Draining, Gone}
use Rattle.lrc_rules.specs.declared.command.Command.{Command}
use Rattle.lrc_rules.specs.declared.command.Command.TheVariants.{Done, Upgrade, Upgraded}
use Rattle.lrc_rules.specs.declared.node_command.NodeCommand.{NodeCommand}
use Rattle.lrc_rules.specs.declared.reply.Reply.{Reply}
use Rattle.lrc_rules.specs.declared.reply.Reply.TheVariants.{Idle, Ended, Changed}
use Rattle.lrc_rules.specs.declared.entry.Entry.{Entry}
use Rattle.lrc_rules.specs.States.{State, mode_of, is_down, lease_of}
use Rattle.lrc_rules.specs.Steps.{node_command, step}
use Rattle.lrc_rules.specs.Changes.{with_done, changed_at, changed_by}
use Rattle.lrc_rules.specs.Endings.{IsOnNode}
use Rattle.lrc_rules.proofs.StepLemmas.{step-changed}
use Rattle.lrc_rules.proofs.NodeCommandLemmas.{IsAsItWas, command-apart}

module _ (st : State) (m : NodeNo) where
  as-it-was : IsAsItWas st m st
  as-it-was = record { gone = refl; draining = refl; down = refl }

  done-same : (s : StripeNo) (f : Fragment) (o : Option LeaseRecord) → IsAsItWas st m (with_done st s f o)
  done-same s f None = as-it-was
  done-same s f (Some l) = record { gone = refl; draining = refl; down = refl }

  away : (n : NodeNo) → ¬ (n ≡ m) → eqb n.value m.value ≡ false
  away n other = ne_eqb n.value m.value (λ same. other (equal_nodes n m same))

  node-same : (on : Option (NodeCommand × NodeNo)) → ¬ (IsSomeAnd on (λ on. on.1 ≡ m)) → IsAsItWas st m (changed_at st on)
  node-same None other = as-it-was
  node-same (Some on) other = command-apart st on.1 m (away on.1 other) on.0

  pub changed-same : (c : Command) (r : Reply) → ¬ (IsOnNode m c) → IsAsItWas st m (changed_by st c r)
  changed-same (Done s f e) Ended other = done-same s f (lease_of st s f)
  changed-same (Upgrade u) Changed other = record { gone = refl; draining = refl; down = refl }
  changed-same (Upgraded u) Changed other = record { gone = refl; draining = refl; down = refl }
  changed-same c Changed other = node-same (node_command c) other
  changed-same _ Idle other = record { gone = refl; draining = refl; down = refl }
  changed-same _ _ other = record { gone = refl; draining = refl; down = refl }

  same-mode : (next : State) → IsAsItWas st m next → mode_of next m ≡ mode_of st m
  same-mode next same = ap₂ (λ (gone draining : Bool). if gone then Gone else (if draining then Draining else Active)) same.gone same.draining

  module _ (nodes : List NodeInfo) (past : List Entry) (session : SessionNo) (c : Command) (other : ¬ (IsOnNode m c)) where
    step-same : IsAsItWas st m (step nodes past st session c).1
    step-same = subst (IsAsItWas st m) (sym (step-changed nodes past st session c)) (changed-same c (step nodes past st session c).0 other)

    pub mode-same : mode_of (step nodes past st session c).1 m ≡ mode_of st m
    mode-same = same-mode (step nodes past st session c).1 step-same

    pub down-same : is_down (step nodes past st session c).1 m ≡ is_down st m
    down-same = step-same.down
