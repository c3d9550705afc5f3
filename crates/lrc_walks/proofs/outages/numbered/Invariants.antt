use Rattle.std.proofs.Common.{◌≡◌, map, take}
use Rattle.lrc_images.specs.Rows.{node_no}
use Rattle.lrc_walks.proofs.outages.numbered.Given as goal

abbrev pub invariant-loop-node : goal.invariant-loop-node
invariant-loop-node l = l.numbers.items ≡ map node_no (take l.node-index l.nodes)
