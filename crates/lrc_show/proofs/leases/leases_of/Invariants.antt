use Rattle.std.proofs.Common.{◌≡◌, take}
use Rattle.std.specs.Prelude.{flat_map}
use Rattle.lrc_book.specs.Books.{state_of}
use Rattle.lrc_show.specs.Listed.{leases_of}
use Rattle.lrc_show.proofs.leases.leases_of.Given as goal

abbrev pub invariant-loop-stripe : goal.invariant-loop-stripe
invariant-loop-stripe l = l.rows.items ≡ flat_map (leases_of (state_of l.book)) (take l.stripe-index l.stripe-items)
