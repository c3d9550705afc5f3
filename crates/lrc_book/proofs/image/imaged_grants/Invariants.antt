use Rattle.std.proofs.Common.{◌≡◌, List}
use Rattle.std.specs.Prelude.{option_to_list}
use Rattle.lrc_terms.specs.Stripes.{stripe_at}
use Rattle.lrc_rules.specs.declared.entry.Entry.{Entry}
use Rattle.lrc_images.specs.Rows.{rows_below, grant_row}
use Rattle.lrc_store.specs.Stores.{AreGrantsOf}
use Rattle.lrc_book.proofs.image.imaged_grants.Given as goal

-- the rows of the stripe numbers so far
abbrev pub invariant-loop-number : goal.invariant-loop-number
invariant-loop-number l = (past : List Entry) → AreGrantsOf past l.grants → l.rows.items ≡ rows_below stripe_at (λ s. option_to_list (grant_row past s)) l.number
