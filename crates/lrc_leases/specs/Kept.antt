-- Internal: no public clause reaches these definitions.
-- The stored form of the leases: a slab with one key for each lease.
use Rattle.std.specs.Prelude.{◌≡◌, ◌+◌, ◌%◌, ◌^◌, ◌≤◌, ◌<◌, ℕ, zero, suc, Bool, if◌then◌else◌, nat_lt, List, length, map, get_or, Option, Some, None, false, IsTrue, IsFalse}
use Rattle.std.specs.List.{Contains}
use Rattle.slab.specs.Slab.{Slab, get, entries}
use Rattle.lrc_code.specs.declared.numbers.StripeNo.{StripeNo}
use Rattle.lrc_code.specs.declared.numbers.NodeNo.{NodeNo}
use Rattle.lrc_code.specs.declared.losses.LossMask.{LossMask}
use Rattle.lrc_terms.specs.declared.lease.Lease.{Lease}
use Rattle.lrc_terms.specs.Leased.{is_of, leased_of}
use Rattle.lrc_leases.specs.Granted.{spot}
use Rattle.lrc_leases.specs.Chains.{ChainTable, chain_in}
use Rattle.lrc_leases.specs.Masks.{AreMasks}

-- the leases of a slab, by rising key
abbrev pub leases_of : Slab Lease → List Lease
leases_of slab = map (λ e. e.1) (entries slab)

-- this is a lease of the fragment
abbrev pub is_lease_of : StripeNo → ℕ → Option Lease → Bool
is_lease_of s f None = false
is_lease_of s f (Some l) = is_of s f l

-- the lease with the key is one of the fragment
abbrev pub HasAt : Slab Lease → ℕ → StripeNo → ℕ → Type 0
HasAt slab key s f = IsTrue (is_lease_of s f (get slab key))

-- some lease is one of the fragment
abbrev pub HasOne : Slab Lease → StripeNo → ℕ → Type 0
HasOne slab s f = (key : ℕ) × HasAt slab key s f

-- no lease is one of the fragment
abbrev pub HasNone : Slab Lease → StripeNo → ℕ → Type 0
HasNone slab s f = (key : ℕ) (l : Lease) → get slab key ≡ Some l → IsFalse (is_of s f l)

-- leases of the same fragment have the same key
abbrev pub AreSingle : Slab Lease → Type 0
AreSingle slab =
    (i j : ℕ) (k l : Lease) → get slab i ≡ Some k → get slab j ≡ Some l → IsTrue (is_of l.stripe l.fragment.value k) → i ≡ j

-- a key in sixteen bits; 65,535 for every larger key
abbrev pub capped_key : ℕ → ℕ
capped_key key = if nat_lt key 65535 then key else 65535

-- the list has the key of each lease at the number of its fragment
abbrev pub AreAt : Slab Lease → List ℕ → Type 0
AreAt slab keys = (key : ℕ) (l : Lease) → get slab key ≡ Some l → (spot l.stripe l.fragment < length keys) × (get_or keys (spot l.stripe l.fragment) 0 ≡ capped_key key)

-- the keys of leases are below a bound
abbrev pub AreBelow : ℕ → Slab Lease → Type 0
AreBelow bound slab = (key : ℕ) (l : Lease) → get slab key ≡ Some l → key < bound

-- ---- leases by the node of their target, and by their end

-- the chain of the leases whose target is on a node
abbrev pub node_chain : NodeNo → ℕ
node_chain n = n.value % 512

-- the chain of a lease, by the node of its target
abbrev pub target_chain : Lease → ℕ
target_chain l = node_chain l.target.node

-- the chain of the leases that end at a clock
abbrev pub clock_chain : ℕ → ℕ
clock_chain clock = clock % 512

-- the chain of a lease, by its end
abbrev pub end_chain : Lease → ℕ
end_chain l = clock_chain l.expiry

-- each lease is in its own chain, and no others are in any; a lease has the number key + 1 there
pub record AreListed (chain : Lease → ℕ) (slab : Slab Lease) (chains : ChainTable) : Type 0 where
  pub listed : (key : ℕ) (l : Lease) → get slab key ≡ Some l → Contains (chain_in chains (chain l)) (key + 1)
  pub live : (d k : ℕ) → Contains (chain_in chains d) k
      → (key : ℕ) × (l : Lease) × (get slab key ≡ Some l) × (key + 1 ≡ k) × (chain l ≡ d)

-- the lease, if it passes the test
abbrev pub if_passes : (Lease → Bool) → Option Lease → Option Lease
if_passes test None = None
if_passes test (Some l) = if test l then Some l else None

-- the lease with a number, if it passes the test
abbrev pub passing_at : (Lease → Bool) → Slab Lease → ℕ → Option Lease
passing_at test slab zero = None
passing_at test slab (suc key) = if_passes test (get slab key)

-- the invariant: each fragment has one lease at most, which is found by its fragment, by the node of its target and by its end, and is in the mask of its
-- stripe; there is room for a lease of each fragment and for the number of each key
pub record IsKept (slab : Slab Lease) (keys : List ℕ) (places : ℕ) (targets ends : ChainTable) (masks : List LossMask) : Type 0 where
  pub single : AreSingle slab
  pub at : AreAt slab keys
  pub long : 65536 ≤ places
  pub targets_are : AreListed target_chain slab targets
  pub ends_are : AreListed end_chain slab ends
  pub marked : AreMasks masks (leased_of (leases_of slab) 0)
  pub roomy : 65536 ≤ slab.capacity
  pub low : AreBelow slab.capacity slab
  pub targets_fit : slab.capacity < targets.room
  pub ends_fit : slab.capacity < ends.room
  pub keys_fit : slab.capacity + 1 < 2 ^ 64
