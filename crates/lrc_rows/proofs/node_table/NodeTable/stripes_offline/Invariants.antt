use Rattle.std.proofs.Common.{◌≡◌, take}
use Rattle.lrc_ranks.specs.Sets.{has}
use Rattle.lrc_nodes.specs.States.{is_node_offline}
use Rattle.lrc_rows.specs.NodeStates.{states_in}
use Rattle.lrc_rows.proofs.NodeStateLemmas.{on_some}
use Rattle.lrc_rows.proofs.node_table.NodeTable.stripes_offline.Given as goal

-- of the nodes so far that are not online, the set has all stripes
abbrev pub invariant-loop-position : goal.invariant-loop-position
invariant-loop-position l = has l.found ≡ on_some (states_in l.self) is_node_offline (take l.position l.self-inside.nodes)
