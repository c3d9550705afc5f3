-- The live leases, at most one for each fragment of a stripe.
use Rattle.std.specs.Prelude.{◌≡◌, ◌≢◌, ℕ, ◌-◌, Bool, ◌&&◌, if◌then◌else◌, nat_eq, List, find, Option, Some, None, is_some, IsTrue, ◌↔◌}
use Rattle.std.specs.List.{Contains, AllPairs}
use Rattle.lrc_code.specs.declared.numbers.StripeNo.{StripeNo}
use Rattle.lrc_code.specs.declared.numbers.Fragment.{Fragment}
use Rattle.lrc_code.specs.declared.numbers.NodeNo.{NodeNo}
use Rattle.lrc_code.specs.Numbers.{same_stripe, same_node}
use Rattle.lrc_code.specs.Losses.{FragmentSet}
use Rattle.lrc_terms.specs.declared.lease.Lease.{Lease}

-- the lease of each fragment of each stripe, by fragment number; none if the fragment has no lease
abbrev pub LeaseMap : Type 0
LeaseMap = StripeNo → ℕ → Option Lease

-- the leases, and the number of further leases for which memory is reserved
pub record Leased : Type 0 where
  pub leases : LeaseMap
  pub spare : ℕ

-- no lease, and no memory for one
abbrev pub empty : Leased
empty = record { leases = λ s f. None; spare = 0 }

-- the lease is of this fragment of the stripe
abbrev pub is_of : StripeNo → ℕ → Lease → Bool
is_of s f l = same_stripe l.stripe s && nat_eq l.fragment.value f

-- one more lease
abbrev pub with_lease : Leased → Lease → Leased
with_lease t l = record t { leases = λ s f. if is_of s f l then Some l else t.leases s f; spare = t.spare - 1 }

-- without the lease of this fragment
abbrev pub without_lease : Leased → StripeNo → Fragment → Leased
without_lease t s f = record t { leases = λ r g. if same_stripe s r && nat_eq f.value g then None else t.leases r g }

-- the fragments of a stripe that have a lease
abbrev pub leased_at : Leased → StripeNo → FragmentSet
leased_at t s f = is_some (t.leases s f)

-- (internal) with memory for this many more leases
abbrev pub with_spare : Leased → ℕ → Leased
with_spare t spare = record t { spare = spare }

-- ---- the same for a list

-- the first lease in the list for each fragment
abbrev pub leases_in : List Lease → LeaseMap
leases_in leases s f = find (is_of s f) leases

-- the leases of the list, with memory for `spare` more
abbrev pub leased_of : List Lease → ℕ → Leased
leased_of leases spare = record { leases = leases_in leases; spare = spare }

-- the list has at most one lease for each fragment of a stripe
abbrev pub AreOneEach : List Lease → Type 0
AreOneEach leases = AllPairs (λ k l. k.stripe ≡ l.stripe → k.fragment ≢ l.fragment) leases

-- ---- targets

-- the target of the lease is on the node
abbrev pub is_target_on : NodeNo → Lease → Bool
is_target_on n l = same_node l.target.node n

-- the list has exactly the leases that pass the test, each once
pub record AreThose (test : Lease → Bool) (t : Leased) (leases : List Lease) : Type 0 where
  pub once : AreOneEach leases
  pub each : (l : Lease) → Contains leases l ↔ ((t.leases l.stripe l.fragment.value ≡ Some l) × IsTrue (test l))

-- the list has exactly the leases with a target on the node, each once
abbrev pub AreTargetsOn : Leased → NodeNo → List Lease → Type 0
AreTargetsOn t n leases = AreThose (is_target_on n) t leases

-- ---- expiry

-- the lease ends at this clock
abbrev pub ends_at : ℕ → Lease → Bool
ends_at clock l = nat_eq l.expiry clock
