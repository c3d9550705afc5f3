use Rattle.std.proofs.Common.{◌≡◌, ◌++◌, take, string_bytes}
use Rattle.std.specs.Prelude.{flat_map}
use Rattle.lrc_book.specs.Books.{state_of}
use Rattle.lrc_show.specs.Facts.{facts_row}
use Rattle.lrc_show.proofs.nodes.push_nodes.Given as goal

abbrev pub invariant-loop-node : goal.invariant-loop-node
invariant-loop-node l = string_bytes l.out ≡ string_bytes l.initial.out ++ flat_map (facts_row (state_of l.book) l.leases.items) (take l.node-index l.node-items)
