use Rattle.std.proofs.Common.{◌≡◌, ◌≤◌, take}
use Rattle.std.specs.Prelude.{count_by}
use Rattle.lrc_book.specs.Books.{state_of}
use Rattle.lrc_show.specs.Summed.{is_hit}
use Rattle.lrc_show.proofs.domains.count_hit.Given as goal

-- how many of the stripes so far are hit
abbrev pub invariant-loop-stripe : goal.invariant-loop-stripe
invariant-loop-stripe l = record { so_far : l.count ≡ count_by (is_hit (state_of l.book) l.nodes) (take l.stripe-index l.stripe-items); few : l.count ≤ l.stripe-index }
