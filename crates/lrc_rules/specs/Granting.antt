-- Which fragments are owed a lease, which of them can get one now, and which comes first.
use Rattle.std.specs.Prelude.{◌≡◌, ◌≢◌, ◌⊎◌, ◌<◌, IsTrue, List, None}
use Rattle.lrc_code.specs.declared.numbers.StripeNo.{StripeNo}
use Rattle.lrc_code.specs.declared.numbers.Fragment.{Fragment}
use Rattle.lrc_topology.specs.declared.NodeInfo.{NodeInfo}
use Rattle.lrc_terms.specs.Stripes.{StripeFragment}
use Rattle.lrc_terms.specs.declared.lease.Lease.{Lease as LeaseRecord}
use Rattle.lrc_rules.specs.declared.command.Command.{Command}
use Rattle.lrc_rules.specs.declared.command.Command.TheVariants.{Lease, Next}
use Rattle.lrc_rules.specs.declared.kind.Kind.TheVariants.{Global}
use Rattle.lrc_rules.specs.States.{State, has_stripe, lease_of, rank}
use Rattle.lrc_rules.specs.Choices.{IsFitting}
use Rattle.lrc_rules.specs.Repairs.{needs, is_safe, kind}

-- The fragment is owed a lease: the store has the stripe, the fragment has no live lease and needs one, and if it can
-- only be rebuilt from the whole stripe, the stripe's missing fragments are recoverable.
pub record IsOwed (nodes : List NodeInfo) (st : State) (s : StripeNo) (f : Fragment) : Type 0 where
  pub there : IsTrue (has_stripe st s)
  pub none : lease_of st s f ≡ None
  pub needed : IsTrue (needs nodes st s f)
  pub suffices : kind nodes st s f ≡ Global → IsTrue (is_safe nodes st s)

-- the fragment is owed a lease, and some node may take it
pub record IsGrantable (nodes : List NodeInfo) (st : State) (p : StripeFragment) : Type 0 where
  pub owed : IsOwed nodes st p.0 p.1
  pub node : NodeInfo
  pub fitting : IsFitting nodes st p.0 p.1 node

-- `comes_first`, in words: the first stripe has the lower rank, or the same rank and the lower number
abbrev pub ComesFirst : List NodeInfo → State → StripeNo → StripeNo → Type 0
ComesFirst nodes st s t = (rank nodes st s < rank nodes st t) ⊎ ((rank nodes st s ≡ rank nodes st t) × (s.value < t.value))

-- `is_repaired_before`, in words: the stripe of the first fragment comes first, or they are of one stripe and it has the
-- lower number
abbrev pub IsRepairedBefore : List NodeInfo → State → StripeFragment → StripeFragment → Type 0
IsRepairedBefore nodes st p q = ComesFirst nodes st p.0 q.0 ⊎ ((p.0 ≡ q.0) × (p.1.value < q.1.value))

-- the fragment is grantable, and is repaired before every other that is
pub record IsMostUrgent (nodes : List NodeInfo) (st : State) (p : StripeFragment) : Type 0 where
  pub grantable : IsGrantable nodes st p
  pub first : (q : StripeFragment) → IsGrantable nodes st q → q ≢ p → IsRepairedBefore nodes st p q

-- the command asks for the lease of this fragment, or for that of the most urgent fragment
abbrev pub AsksFor : LeaseRecord → Command → Type 0
AsksFor l c = (c ≡ Lease l.stripe l.fragment) ⊎ (c ≡ Next)
