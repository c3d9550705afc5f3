-- What a book keeps of a state.
use Rattle.std.specs.Prelude.{◌≡◌, ◌≢◌, ◌<◌, ℕ, true, false, if◌then◌else◌, List, map, All, Option, Some, None, option_map, IsTrue}
use Rattle.lrc_code.specs.declared.numbers.StripeNo.{StripeNo}
use Rattle.lrc_code.specs.declared.numbers.NodeNo.{NodeNo}
use Rattle.lrc_code.specs.declared.numbers.Fragment.{Fragment}
use Rattle.lrc_code.specs.Codes.{has_fragment}
use Rattle.lrc_topology.specs.declared.NodeInfo.{NodeInfo}
use Rattle.lrc_topology.specs.Nodes.{AreNodes}
use Rattle.lrc_slots.specs.Tables.{slots_of}
use Rattle.lrc_terms.specs.Levels.{Homes, homes_of}
use Rattle.lrc_homes.specs.Domains.{AreDomainsKept}
use Rattle.lrc_nodes.specs.declared.node_state.NodeState.{NodeState}
use Rattle.lrc_stripes.specs.Stored.{Stored}
use Rattle.lrc_stripes.specs.Tables.{stored_in}
use Rattle.lrc_terms.specs.declared.lease.Lease.{Lease}
use Rattle.lrc_terms.specs.Leased.{Leased, leased_of}
use Rattle.lrc_leases.specs.Tables.{leased_in}
use Rattle.lrc_leases.specs.Granted.{granted_in}
use Rattle.lrc_rules.specs.declared.entry.Entry.{Entry}
use Rattle.lrc_store.specs.declared.store.Store.{Store}
use Rattle.lrc_rules.specs.States.{State, has_stripe, lease_of, code_of, held_by, seats_of, has_number, mode_of, is_down, is_upgrading}
use Rattle.lrc_rules.specs.Placement.{chosen}
use Rattle.lrc_rules.specs.declared.kind.Kind.{Kind}
use Rattle.lrc_rules.specs.Repairs.{kind, is_beyond_repair}
use Rattle.lrc_rules.specs.Leases.{grants}
use Rattle.lrc_rules.specs.Goodness.{AreSeated, IsStanding, KeepApart}
use Rattle.lrc_bars.specs.Ties.{kept_table}

-- a node with its state
abbrev pub node_state : State → NodeInfo → NodeState
node_state st n = record { node = n; mode = mode_of st n.number; is_down = is_down st n.number; is_upgrading = is_upgrading st n }

-- the nodes with their states, the stripes, codes and homes of the state
abbrev pub stored_of : List NodeInfo → State → Stored
stored_of nodes st =
    record {
      nodes = map (node_state st) nodes;
      stripes = has_stripe st;
      code = code_of st;
      homes = λ s. homes_of st.homes s;
    }

-- the targets of a stripe's leases, by the numbers of fragments
abbrev pub targets_in : Leased → StripeNo → Homes
targets_in t s f = option_map (λ l. l.target) (t.leases s f)

-- what is kept is that of a state over these nodes, whose stripes are seated, and none of whose nodes is both gone and draining
pub record IsOf (st : State) (s : Store) : Type 0 where
  pub known : AreNodes s.topology
  pub seated : AreSeated s.topology st
  pub apart : (n : NodeNo) → has_number st.gone n ≡ true → has_number st.draining n ≡ false
  pub table_is : slots_of s.table ≡ kept_table s.topology st
  pub stripes_is : stored_in s.stripes ≡ stored_of s.topology st
  pub leases_is : leased_in s.leases ≡ leased_of st.leases 0
  pub domains_are : AreDomainsKept s.topology (targets_in (leased_in s.leases)) s.target_domains.items
  pub upgrading_is : s.upgrading ≡ st.upgrading
  pub clock_is : s.clock.value ≡ st.clock

-- this is the store of some state
abbrev pub IsTied : Store → Type 0
IsTied s = (st : State) × IsOf st s

-- the stripe is there, its code has the fragment, which has no lease, and the new one's target is chosen for it
pub record IsGrant (nodes : List NodeInfo) (st : State) (lease : Lease) : Type 0 where
  pub there : has_stripe st lease.stripe ≡ true
  pub own : IsTrue (has_fragment (code_of st lease.stripe) lease.fragment.value)
  pub new : lease_of st lease.stripe lease.fragment ≡ None
  pub chosen_is : chosen nodes st lease.stripe lease.fragment ≡ Some lease.target

-- The lease may be added: the stripe is there, and its code has the fragment, which has no lease. The target is a free
-- slot of a node that is not gone, apart from the seats of the stripe's other fragments.
pub record MayLease (nodes : List NodeInfo) (st : State) (lease : Lease) : Type 0 where
  pub there : has_stripe st lease.stripe ≡ true
  pub own : IsTrue (has_fragment (code_of st lease.stripe) lease.fragment.value)
  pub new : lease_of st lease.stripe lease.fragment ≡ None
  pub standing : IsStanding nodes st lease.target
  pub others : All (λ h. h.seat ≢ lease.target) (seats_of st)
  pub apart : All (λ h. KeepApart nodes st h (held_by lease)) (seats_of st)

-- how a fragment is rebuilt, if it can be
abbrev pub repair_of : List NodeInfo → State → StripeNo → Fragment → Option Kind
repair_of nodes st s f = if is_beyond_repair nodes st s f then None else Some (kind nodes st s f)

-- these are the counts of the entries' grants
abbrev pub AreGrantsOf : List Entry → List ℕ → Type 0
AreGrantsOf past counts = (s : StripeNo) (f : Fragment) → granted_in counts s f ≡ grants past s f

-- each count of grants can be counted on
abbrev pub AreFew : List ℕ → Type 0
AreFew counts = (s : StripeNo) (f : Fragment) → granted_in counts s f < 4294967295
