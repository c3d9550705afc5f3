-- What two worlds have in common if their states are alike: what they show, and how they go on.
use Rattle.std.specs.Prelude.{◌≡◌, List}
use Rattle.lrc_code.specs.declared.numbers.StripeNo.{StripeNo}
use Rattle.lrc_code.specs.declared.numbers.NodeNo.{NodeNo}
use Rattle.lrc_code.specs.declared.numbers.Fragment.{Fragment}
use Rattle.lrc_topology.specs.declared.NodeInfo.{NodeInfo}
use Rattle.lrc_rules.specs.declared.entry.Entry.{Entry}
use Rattle.lrc_rules.specs.States.{State, code_shown, homes_shown, level_shown, missing_shown, lease_of, mode_shown, load_shown}
use Rattle.lrc_rules.specs.Leases.{grants}
use Rattle.lrc_rules.specs.Urgency.{work, risk, next_of}

-- the entries of both lists grant as many leases of each fragment
abbrev pub HaveSameGrants : List Entry → List Entry → Type 0
HaveSameGrants past other = (s : StripeNo) (f : Fragment) → grants past s f ≡ grants other s f

-- every read of the two states returns the same
pub record ShowTheSame (nodes : List NodeInfo) (st other : State) : Type 0 where
  pub codes : (s : StripeNo) → code_shown st s ≡ code_shown other s
  pub homes : (s : StripeNo) → homes_shown st s ≡ homes_shown other s
  pub levels : (s : StripeNo) → level_shown nodes st s ≡ level_shown nodes other s
  pub missing : (s : StripeNo) → missing_shown nodes st s ≡ missing_shown nodes other s
  pub leases : (s : StripeNo) (f : Fragment) → lease_of st s f ≡ lease_of other s f
  pub modes : (n : NodeNo) → mode_shown nodes st n ≡ mode_shown nodes other n
  pub loads : (n : NodeNo) → load_shown nodes st n ≡ load_shown nodes other n
  pub work : work nodes st ≡ work nodes other
  pub risk : risk nodes st ≡ risk nodes other
  pub next : next_of nodes st ≡ next_of nodes other
  pub clock : st.clock ≡ other.clock
