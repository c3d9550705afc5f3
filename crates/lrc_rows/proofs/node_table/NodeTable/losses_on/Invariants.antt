use Rattle.std.proofs.Common.{◌≡◌, ℕ, ◌&&◌, List, nat_lt, get_or, None, Bool}
use Rattle.lrc_code.specs.declared.codes.Code.{Code}
use Rattle.lrc_code.specs.Losses.{bits_set}
use Rattle.lrc_code.specs.declared.numbers.NodeNo.{NodeNo}
use Rattle.lrc_topology.specs.declared.seat.Seat.{Seat}
use Rattle.lrc_homes.specs.declared.losses.Losses.{Losses}
use Rattle.lrc_homes.specs.Homes.{seated_homes, is_missing, is_to_move}
use Rattle.lrc_rows.specs.NodeStates.{states_in}
use Rattle.lrc_rows.proofs.node_table.NodeTable.losses_on.Given as goal

-- the masks have the fragments so far
pub record AreSoFar (code : Code) (up draining : NodeNo → Bool) (seats : List Seat) (count : ℕ) (l : Losses) : Type 0 where
  pub code_is : l.code ≡ code
  pub homeless : l.homeless.bits ≡ 0
  pub missing : (f : ℕ) → bits_set l.missing.bits f ≡ (nat_lt f count && is_missing up (get_or (seated_homes seats) f None))
  pub needs : (f : ℕ) → bits_set l.needs.bits f ≡ (nat_lt f count && is_to_move draining (get_or (seated_homes seats) f None))

abbrev pub invariant-loop-number : goal.invariant-loop-number
invariant-loop-number l = AreSoFar l.fn.code (states_in l.self).up (states_in l.self).draining l.seats l.number l.losses
