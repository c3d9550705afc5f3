use Rattle.std.proofs.Common.{◌≡◌, take}
use Rattle.std.specs.Prelude.{flat_map}
use Rattle.lrc_book.specs.Books.{state_of}
use Rattle.lrc_show.specs.Reasons.{needing_of}
use Rattle.lrc_show.proofs.health.needing.Given as goal

-- the fragments of the stripes so far
abbrev pub invariant-loop-stripe : goal.invariant-loop-stripe
invariant-loop-stripe l = l.rows.items ≡ flat_map (needing_of l.book.nodes (state_of l.book)) (take l.stripe-index l.stripe-items)
