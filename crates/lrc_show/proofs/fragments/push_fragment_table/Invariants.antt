use Rattle.std.proofs.Common.{◌≡◌, ◌++◌, take, string_bytes}
use Rattle.std.specs.Prelude.{flat_map}
use Rattle.lrc_book.specs.Books.{state_of}
use Rattle.lrc_show.specs.Listed.{fragment_rows}
use Rattle.lrc_show.proofs.fragments.push_fragment_table.Given as goal

-- the rows of the stripes so far
abbrev pub invariant-loop-stripe : goal.invariant-loop-stripe
invariant-loop-stripe l = string_bytes l.out ≡ string_bytes l.initial.out ++ flat_map (fragment_rows l.book.nodes (state_of l.book)) (take l.stripe-index l.stripe-items)
