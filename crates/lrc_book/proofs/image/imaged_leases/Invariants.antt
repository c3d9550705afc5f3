use Rattle.std.proofs.Common.{◌≡◌}
use Rattle.lrc_terms.specs.Stripes.{stripe_at}
use Rattle.lrc_rules.specs.States.{State}
use Rattle.lrc_images.specs.Rows.{rows_below, stripe_leases}
use Rattle.lrc_store.specs.Stores.{IsOf}
use Rattle.lrc_book.proofs.image.imaged_leases.Given as goal

-- the rows of the leases of the stripe numbers so far
abbrev pub invariant-loop-number : goal.invariant-loop-number
invariant-loop-number l = (st : State) → IsOf st l.store → l.rows.items ≡ rows_below stripe_at (stripe_leases st) l.number
