use Rattle.std.proofs.Common.{◌≡◌}
use Rattle.std.specs.Prelude.{option_to_list}
use Rattle.lrc_rules.specs.States.{State}
use Rattle.lrc_images.specs.Rows.{rows_below, node_no, node_row}
use Rattle.lrc_store.specs.Stores.{IsOf}
use Rattle.lrc_book.proofs.image.imaged_nodes.Given as goal

-- the rows of the node numbers so far
abbrev pub invariant-loop-number : goal.invariant-loop-number
invariant-loop-number l = (st : State) → IsOf st l.store → l.rows.items ≡ rows_below node_no (λ n. option_to_list (node_row l.store.topology st n)) l.number
