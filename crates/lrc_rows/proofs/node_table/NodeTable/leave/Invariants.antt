use Rattle.std.proofs.Common.{◌≡◌, take}
use Rattle.std.specs.List.{list_any}
use Rattle.lrc_homes.specs.Homes.{sits_on}
use Rattle.lrc_rows.specs.NodeStates.{states_in}
use Rattle.lrc_rows.proofs.NodeStateLemmas.{off}
use Rattle.lrc_rows.proofs.node_table.NodeTable.leave.Given as goal

-- the stripe is off the nodes of the homes so far
abbrev pub invariant-loop-fragment : goal.invariant-loop-fragment
invariant-loop-fragment l = states_in l.self ≡ off (states_in l.fn.self) l.stripe (λ n. list_any (sits_on n) (take l.fragment-index l.row.homes))
