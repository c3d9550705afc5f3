use Rattle.std.proofs.Common.{◌≡◌, take, filter}
use Rattle.lrc_book.specs.Books.{state_of}
use Rattle.lrc_show.specs.Reasons.{loses_stripe}
use Rattle.lrc_show.proofs.health.fragile_domains.Given as goal

-- those of the domains so far
abbrev pub invariant-loop-domain : goal.invariant-loop-domain
invariant-loop-domain l = l.rows.items ≡ filter (loses_stripe l.book.nodes (state_of l.book)) (take l.domain-index l.domain-items)
