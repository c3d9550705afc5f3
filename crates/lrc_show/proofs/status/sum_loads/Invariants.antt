use Rattle.std.proofs.Common.{◌≡◌, ◌*◌, ◌≤◌, take}
use Rattle.std.specs.Prelude.{sum_by}
use Rattle.lrc_show.proofs.status.sum_loads.Given as goal

abbrev pub invariant-loop-node : goal.invariant-loop-node
invariant-loop-node l = record { so_far : l.total ≡ sum_by (λ n. n.load) (take l.node-index l.nodes); few : l.total ≤ l.node-index * 4294967296 }
