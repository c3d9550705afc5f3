use Rattle.std.proofs.Common.{◌≡◌, ◌≤◌, ◌-◌, length, take, nat_lt}
use Rattle.lrc_ranks.specs.Sets.{has}
use Rattle.lrc_rows.specs.NodeStates.{states_in}
use Rattle.lrc_rows.proofs.ShortLemmas.{counted}
use Rattle.lrc_rows.proofs.node_table.NodeTable.stripes_on_several_down.Given as goal

-- the sets have the stripes with homes on one and on two of the nodes so far that are not up
abbrev pub invariant-loop-position : goal.invariant-loop-position
invariant-loop-position l = record {
  within : l.from ≤ length l.self-inside.nodes;
  one : has l.any ≡ λ s. nat_lt 0 (counted (states_in l.self) s (take l.from l.self-inside.nodes));
  two : has l.several ≡ λ s. nat_lt 1 (counted (states_in l.self) s (take l.from l.self-inside.nodes));
}

abbrev pub decreases-loop-position : goal.decreases-loop-position
decreases-loop-position l = length l.self-inside.nodes - l.from
