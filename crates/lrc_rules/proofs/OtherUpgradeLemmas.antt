-- Only Upgrade and Upgraded change which domain is upgrading.
use Rattle.std.proofs.Common.{◌≡◌, ◌≢◌, List, Option, Some, None, refl, sym, subst}
use Rattle.lrc_code.specs.declared.numbers.StripeNo.{StripeNo}
use Rattle.lrc_code.specs.declared.numbers.UpgradeNo.{UpgradeNo}
use Rattle.lrc_code.specs.declared.numbers.SessionNo.{SessionNo}
use Rattle.lrc_code.specs.declared.numbers.Fragment.{Fragment}
use Rattle.lrc_topology.specs.declared.NodeInfo.{NodeInfo}
use Rattle.lrc_terms.specs.declared.lease.Lease.{Lease as LeaseRecord}
use Rattle.lrc_rules.specs.declared.command.Command.{Command}
use Rattle.lrc_rules.specs.declared.command.Command.TheVariants.{Done, Upgrade, Upgraded}
use Rattle.lrc_rules.specs.declared.reply.Reply.{Reply}
use Rattle.lrc_rules.specs.declared.reply.Reply.TheVariants.{Idle, Ended, Changed}
use Rattle.lrc_rules.specs.declared.entry.Entry.{Entry}
use Rattle.lrc_rules.specs.States.{State, lease_of}
use Rattle.lrc_rules.specs.Steps.{step}
use Rattle.lrc_rules.specs.Changes.{with_done, changed_by}
use Rattle.lrc_rules.proofs.StepLemmas.{step-changed}

-- the same domain is upgrading
abbrev IsSame : State → State → Type 0
IsSame st next = next.upgrading ≡ st.upgrading

-- the command is neither Upgrade nor Upgraded
abbrev IsOther : Command → Type 0
IsOther c = ((u : UpgradeNo) → c ≢ Upgrade u) × ((u : UpgradeNo) → c ≢ Upgraded u)

module _ (st : State) where
  done-same : (s : StripeNo) (f : Fragment) (o : Option LeaseRecord) → IsSame st (with_done st s f o)
  done-same s f None = refl
  done-same s f (Some l) = refl

  changed-same : (c : Command) (r : Reply) → IsOther c → IsSame st (changed_by st c r)
  changed-same (Done s f e) Ended other = done-same s f (lease_of st s f)
  changed-same (Upgrade u) Changed other = absurd (other.0 u refl)
  changed-same (Upgraded u) Changed other = absurd (other.1 u refl)
  changed-same _ Idle other = refl
  changed-same _ _ other = refl

pub upgrading-same : (nodes : List NodeInfo) (past : List Entry) (st : State) (session : SessionNo) (c : Command)
    → ((u : UpgradeNo) → c ≢ Upgrade u) → ((u : UpgradeNo) → c ≢ Upgraded u) → (step nodes past st session c).1.upgrading ≡ st.upgrading
upgrading-same nodes past st session c not_begun not_ended =
    subst (IsSame st) (sym (step-changed nodes past st session c)) (changed-same st c (step nodes past st session c).0 (not_begun, not_ended))
