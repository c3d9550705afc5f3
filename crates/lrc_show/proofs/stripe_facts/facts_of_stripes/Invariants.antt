use Rattle.std.proofs.Common.{◌≡◌, take, map}
use Rattle.lrc_book.specs.Books.{state_of}
use Rattle.lrc_show.specs.Facts.{stripe_facts}
use Rattle.lrc_show.proofs.stripe_facts.facts_of_stripes.Given as goal

abbrev pub invariant-loop-stripe : goal.invariant-loop-stripe
invariant-loop-stripe l = l.rows.items ≡ map (stripe_facts l.book.nodes (state_of l.book)) (take l.stripe-index l.stripe-items)
