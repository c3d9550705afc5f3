-- What holds after every legal history.
use Rattle.std.specs.Prelude.{◌≡◌, ◌≢◌, ◌+◌, ◌<◌, ◌≤◌, List, All, AllPairs, Contains, IfSome, IsSomeAnd, IsTrue}
use Rattle.lrc_code.specs.Codes.{has_fragment}
use Rattle.lrc_topology.specs.declared.NodeInfo.{NodeInfo}
use Rattle.lrc_topology.specs.declared.seat.Seat.{Seat}
use Rattle.lrc_topology.specs.declared.seat.Held.{Held}
use Rattle.lrc_topology.specs.Nodes.{node_at}
use Rattle.lrc_terms.specs.Leased.{AreOneEach}
use Rattle.lrc_rules.specs.declared.entry.Entry.{Entry}
use Rattle.lrc_terms.specs.declared.mode.Mode.TheVariants.{Gone}
use Rattle.lrc_rules.specs.States.{State, code_of, seats_of, taken_seats, mode_of}
use Rattle.lrc_rules.specs.Choices.{AreApart}
use Rattle.lrc_rules.specs.Leases.{grants, term}

-- the seat is a slot of a node that is in the store and not gone
abbrev pub IsStanding : List NodeInfo → State → Seat → Type 0
IsStanding nodes st seat = IsSomeAnd (node_at nodes seat.node) (λ n. (seat.slot < n.slots) × (mode_of st seat.node ≢ Gone))

-- two held seats of different fragments of one stripe are on nodes apart
abbrev pub KeepApart : List NodeInfo → State → Held → Held → Type 0
KeepApart nodes st h g =
    h.stripe ≡ g.stripe → h.fragment ≢ g.fragment
    → IfSome (node_at nodes h.seat.node) (λ n. IfSome (node_at nodes g.seat.node) (λ m. AreApart (code_of st h.stripe) h.fragment n g.fragment m))

-- The seats of the state are in order: no stripe is listed twice, no seat is held twice, and each held seat is a slot
-- of a node that is not gone. Placements are lawful, and each fragment has at most one home and one lease. Each
-- narrow stripe is a stripe of the store. Each held seat is of such a stripe, and of a fragment that its code has. No
-- node that is down is gone.
pub record AreSeated (nodes : List NodeInfo) (st : State) : Type 0 where
  pub stripes : AllPairs (λ s t. s ≢ t) st.stripes
  pub single : AllPairs (λ a b. a ≢ b) (taken_seats st)
  pub standing : All (IsStanding nodes st) (taken_seats st)
  pub lawful : AllPairs (KeepApart nodes st) (seats_of st)
  pub one_home : AllPairs (λ h g. h.stripe ≡ g.stripe → h.fragment ≢ g.fragment) st.homes
  pub one_lease : AreOneEach st.leases
  pub coded : All (λ s. Contains st.stripes s) st.narrow
  pub there : All (λ h. Contains st.stripes h.stripe) (seats_of st)
  pub within : All (λ h. IsTrue (has_fragment (code_of st h.stripe) h.fragment.value)) (seats_of st)
  pub reachable : All (λ n. mode_of st n ≢ Gone) st.down

-- What holds of the state after a history: its seats are in order. Each live lease has the epoch of its fragment's
-- last grant, has not expired, and expires within a term.
pub record IsGood (nodes : List NodeInfo) (history : List Entry) (st : State) : Type 0 where
  pub seated : AreSeated nodes st
  pub current : All (λ l. l.epoch ≡ grants history l.stripe l.fragment) st.leases
  pub running : All (λ l. st.clock < l.expiry) st.leases
  pub termed : All (λ l. l.expiry ≤ st.clock + term) st.leases
