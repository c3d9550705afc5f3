use Rattle.std.proofs.Common.{◌≡◌, ◌++◌, Some, flat_map}
use Rattle.std.specs.List.{AllByRecursion}
use Rattle.lrc_topology.specs.Nodes.{node_at}
use Rattle.lrc_book.specs.Books.{state_of}
use Rattle.lrc_text.specs.Tables.{load_row}
use Rattle.lrc_text.specs.Writers.{text_in, IsBetweenRows}
use Rattle.lrc_text.proofs.tables.with_load_table.Given as goal

-- the rows so far and those to come are all, and the book has the nodes to come
abbrev pub invariant-loop-node : goal.invariant-loop-node
invariant-loop-node l = record {
  between : IsBetweenRows l.table;
  told : text_in l.table ++ flat_map (load_row (state_of l.book)) l.node-iterator ≡ text_in l.initial.table ++ flat_map (load_row (state_of l.book)) l.book.nodes;
  known : AllByRecursion (λ n. node_at l.book.nodes n.number ≡ Some n) l.node-iterator;
}
