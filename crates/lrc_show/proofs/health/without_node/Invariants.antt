use Rattle.std.proofs.Common.{◌≡◌, take, filter}
use Rattle.lrc_book.specs.Books.{state_of}
use Rattle.lrc_show.specs.Reasons.{finds_no_node}
use Rattle.lrc_show.proofs.health.without_node.Given as goal

-- those of the fragments so far
abbrev pub invariant-loop-pair : goal.invariant-loop-pair
invariant-loop-pair l = l.rows.items ≡ filter (finds_no_node l.book.nodes (state_of l.book)) (take l.pair-index l.fragments)
