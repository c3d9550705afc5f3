use Rattle.std.proofs.Common.{◌≡◌, take, filter}
use Rattle.lrc_book.specs.Books.{state_of}
use Rattle.lrc_book.specs.Looks.{is_granted_now}
use Rattle.lrc_show.proofs.health.waiting.Given as goal

-- those of the fragments so far
abbrev pub invariant-loop-pair : goal.invariant-loop-pair
invariant-loop-pair l = l.rows.items ≡ filter (λ p. is_granted_now l.book.nodes (state_of l.book) p.0 p.1) (take l.pair-index l.fragments)
