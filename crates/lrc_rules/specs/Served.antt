-- What the manager promises of a history and of the state after it. It is promised in one sentence:
--
-- "The history that the manager keeps is a history of one thread of the plain placement object: each session's calls stand in
-- it once, in the session's order, with the replies they got, and no others; whenever the lock is free, slots, leases, loads,
-- levels and repair order are those of the state after it, in which every placement is lawful, every lease single and current,
-- and lost means unrecoverable."
--
-- The records below have a field for each phrase about the history itself and about the state after it. The other phrases are
-- about calls and reads, and stand in their contracts: that a call adds its entry and does nothing else (`Book::call`, clauses
-- `entry` and `err`), and that a read shows this state (`Book::homes`, `load`, `level`, `risk` and the others).
use Rattle.std.specs.Prelude.{◌≡◌, ◌≢◌, ◌+◌, ◌<◌, ◌≤◌, ◌↔◌, List, All, AllPairs}
use Rattle.lrc_code.specs.declared.numbers.StripeNo.{StripeNo}
use Rattle.lrc_code.specs.Losses.{IsRecoverable}
use Rattle.lrc_topology.specs.declared.NodeInfo.{NodeInfo}
use Rattle.lrc_terms.specs.declared.level.Level.TheVariants.{Lost}
use Rattle.lrc_terms.specs.Leased.{AreOneEach}
use Rattle.lrc_rules.specs.declared.entry.Entry.{Entry}
use Rattle.lrc_rules.specs.States.{State, code_of, seats_of, taken_seats, homeless, level}
use Rattle.lrc_rules.specs.Leases.{grants, term}
use Rattle.lrc_rules.specs.Histories.{IsLegal, state_after}
use Rattle.lrc_rules.specs.Goodness.{IsStanding, KeepApart}

-- what is promised of the state after these entries
pub record IsSound (nodes : List NodeInfo) (history : List Entry) (st : State) : Type 0 where
  -- "every placement is lawful": held seats of different fragments of one stripe are on nodes of different fault
  -- domains, and of different upgrade domains if the fragments share a class
  pub lawful : AllPairs (KeepApart nodes st) (seats_of st)
  -- and each of them is a slot of a node that is in the store and not gone
  pub standing : All (IsStanding nodes st) (taken_seats st)
  -- "every lease single": a fragment has at most one live lease, and no seat is held twice
  pub single : AreOneEach st.leases
  pub apart : AllPairs (λ a b. a ≢ b) (taken_seats st)
  -- "and current": a live lease has the epoch of its fragment's last grant, has not expired, and expires within a
  -- term
  pub current : All (λ l. l.epoch ≡ grants history l.stripe l.fragment) st.leases
  pub running : All (λ l. (st.clock < l.expiry) × (l.expiry ≤ st.clock + term)) st.leases
  -- "lost means unrecoverable"
  pub lost : (s : StripeNo) → (level nodes st s ≡ Lost) ↔ (¬ (IsRecoverable (code_of st s) (homeless st s)))

-- what is promised of a history
pub record IsServed (nodes : List NodeInfo) (history : List Entry) : Type 0 where
  -- "a history of one thread of the plain placement object": each reply is the one that the rules give, from the
  -- empty store on
  pub legal : IsLegal nodes history
  -- "the state after it, in which .."
  pub sound : IsSound nodes history (state_after nodes history)
