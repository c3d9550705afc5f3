use Rattle.std.proofs.Common.{◌≡◌, ◌++◌, Some, map}
use Rattle.std.specs.List.{AllByRecursion}
use Rattle.lrc_topology.specs.Nodes.{node_at}
use Rattle.lrc_book.specs.Books.{state_of}
use Rattle.lrc_show.specs.Facts.{node_facts}
use Rattle.lrc_show.proofs.nodes.facts_of_nodes.Given as goal

-- the nodes so far and those to come are all, and the book has the nodes to come
abbrev pub invariant-loop-node : goal.invariant-loop-node
invariant-loop-node l = record {
  told : l.rows.items ++ map (node_facts (state_of l.book)) l.node-iterator ≡ map (node_facts (state_of l.book)) l.book.nodes;
  known : AllByRecursion (λ n. node_at l.book.nodes n.number ≡ Some n) l.node-iterator;
}
