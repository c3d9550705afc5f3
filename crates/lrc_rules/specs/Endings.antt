-- Which commands can end a live lease, remove a home or a stripe, or change the mode of a node, and what is left
-- after a lease.
use Rattle.std.specs.Prelude.{◌≡◌, ◌≢◌, ◌⊎◌, ◌+◌, IsTrue, IsSomeAnd, List, [], ◌∷◌, None}
use Rattle.lrc_code.specs.declared.numbers.StripeNo.{StripeNo}
use Rattle.lrc_code.specs.declared.numbers.Fragment.{Fragment}
use Rattle.lrc_code.specs.declared.numbers.NodeNo.{NodeNo}
use Rattle.lrc_topology.specs.declared.NodeInfo.{NodeInfo}
use Rattle.lrc_topology.specs.declared.seat.Seat.{Seat}
use Rattle.lrc_terms.specs.declared.lease.Lease.{Lease as LeaseRecord}
use Rattle.lrc_terms.specs.Leased.{ends_at}
use Rattle.lrc_rules.specs.declared.command.Command.{Command}
use Rattle.lrc_rules.specs.declared.command.Command.TheVariants.{Done, Abandon, Revoke, Drop, Fail, Tick}
use Rattle.lrc_rules.specs.declared.refusal.Refusal.{Refusal}
use Rattle.lrc_rules.specs.declared.reply.Reply.TheVariants.{Refused}
use Rattle.lrc_rules.specs.declared.entry.Entry.{Entry}
use Rattle.lrc_rules.specs.States.{State, lease_of}
use Rattle.lrc_rules.specs.Leases.{is_tick}
use Rattle.lrc_rules.specs.Histories.{World, outcome_in, next_world}
use Rattle.lrc_rules.specs.Steps.{hangs_on, node_command}

-- the command can end the lease: Done, Abandon or Revoke of its fragment, Drop of its stripe, Fail of the node of its
-- target or of its fragment's home, or the Tick at which it expires
abbrev pub CanEnd : State → LeaseRecord → Command → Type 0
CanEnd st l (Done s f e) = (l.stripe ≡ s) × (l.fragment ≡ f)
CanEnd st l (Abandon s f e) = (l.stripe ≡ s) × (l.fragment ≡ f)
CanEnd st l (Revoke s f) = (l.stripe ≡ s) × (l.fragment ≡ f)
CanEnd st l (Drop s) = l.stripe ≡ s
CanEnd st l (Fail n) = IsTrue (hangs_on st n l)
CanEnd st l Tick = IsTrue (ends_at (st.clock + 1) l)
CanEnd st l _ = ⊥

-- the command of the entry is refused in this world
abbrev pub IsRefusedIn : List NodeInfo → World → Entry → Type 0
IsRefusedIn nodes w e = (r : Refusal) × ((outcome_in nodes w e.session e.command).0 ≡ Refused r)

-- no entry from this world on ends the lease, apart from ticks: each is a tick, or cannot end it, or is refused
abbrev pub IsLeftAlone : List NodeInfo → LeaseRecord → World → List Entry → Type 0
IsLeftAlone nodes l w [] = Unit {0}
IsLeftAlone nodes l w (e ∷ es) =
    (IsTrue (is_tick e.command) ⊎ (¬ (CanEnd w.state l e.command)) ⊎ IsRefusedIn nodes w e) × IsLeftAlone nodes l (next_world nodes w e) es

-- the command can remove this home: Done of its fragment, Drop of its stripe, or Fail of its node
abbrev pub CanMove : StripeNo → Fragment → Seat → Command → Type 0
CanMove s f seat (Done r g e) = (s ≡ r) × (f ≡ g)
CanMove s f seat (Drop r) = s ≡ r
CanMove s f seat (Fail n) = seat.node ≡ n
CanMove s f seat _ = ⊥

-- the command drops this stripe
abbrev pub IsDropOf : StripeNo → Command → Type 0
IsDropOf s (Drop r) = s ≡ r
IsDropOf s _ = ⊥

-- the command is on this node
abbrev pub IsOnNode : NodeNo → Command → Type 0
IsOnNode n command = IsSomeAnd (node_command command) (λ on. on.1 ≡ n)

-- The state `st` is the state `was` without the live lease of the fragment; all else is the same.
pub record IsWithoutLease (was : State) (s : StripeNo) (f : Fragment) (st : State) : Type 0 where
  pub none : lease_of st s f ≡ None
  pub others : (r : StripeNo) (g : Fragment) → (r ≡ s → g ≢ f) → lease_of st r g ≡ lease_of was r g
  pub rest : st ≡ record was { leases = st.leases }
