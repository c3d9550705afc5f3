use Rattle.std.proofs.Common.{◌≡◌, take, filter}
use Rattle.lrc_rules.specs.States.{level}
use Rattle.lrc_book.specs.Books.{state_of}
use Rattle.lrc_show.specs.Summed.{is_level}
use Rattle.lrc_show.proofs.health.stripes_at.Given as goal

-- the stripes of the level so far
abbrev pub invariant-loop-stripe : goal.invariant-loop-stripe
invariant-loop-stripe l = l.rows.items ≡ filter (λ s. is_level l.level (level l.book.nodes (state_of l.book) s)) (take l.stripe-index l.stripe-items)
