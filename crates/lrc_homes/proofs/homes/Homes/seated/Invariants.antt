use Rattle.std.proofs.Common.{◌≡◌, ℕ, ◌<◌, List, get_or, length}
use Rattle.lrc_topology.specs.declared.seat.Seat.{Seat}
use Rattle.lrc_homes.proofs.homes.Homes.seated.Given as goal

-- the numbers so far are those of the seats
pub record AreSeated (seats : List Seat) (number : ℕ) (nodes slots : List ℕ) : Type 0 where
  pub nodes_long : length nodes ≡ 16
  pub slots_long : length slots ≡ 16
  pub on : (k : ℕ) (d : Seat) → k < number → get_or nodes k 0 ≡ (get_or seats k d).node.value
  pub slotted : (k : ℕ) (d : Seat) → k < number → get_or slots k 0 ≡ (get_or seats k d).slot

abbrev pub invariant-loop-number : goal.invariant-loop-number
invariant-loop-number l = AreSeated l.seats l.number l.nodes l.slots
