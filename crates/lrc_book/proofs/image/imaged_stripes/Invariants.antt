use Rattle.std.proofs.Common.{◌≡◌}
use Rattle.std.specs.Prelude.{option_to_list}
use Rattle.lrc_terms.specs.Stripes.{stripe_at}
use Rattle.lrc_rules.specs.States.{State}
use Rattle.lrc_images.specs.Rows.{rows_below, stripe_row}
use Rattle.lrc_store.specs.Stores.{IsOf}
use Rattle.lrc_book.proofs.image.imaged_stripes.Given as goal

-- the rows of the stripe numbers so far
abbrev pub invariant-loop-number : goal.invariant-loop-number
invariant-loop-number l = (st : State) → IsOf st l.store → l.rows.items ≡ rows_below stripe_at (λ s. option_to_list (stripe_row st s)) l.number
