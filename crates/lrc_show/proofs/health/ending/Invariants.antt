use Rattle.std.proofs.Common.{◌≡◌, ◌+◌, take, map, filter}
use Rattle.lrc_terms.specs.Leased.{ends_at}
use Rattle.lrc_book.specs.Books.{state_of}
use Rattle.lrc_show.proofs.health.ending.Given as goal

-- the fragments of the leases so far
abbrev pub invariant-loop-lease : goal.invariant-loop-lease
invariant-loop-lease l = l.rows.items ≡ map (λ k. (k.stripe, k.fragment)) (filter (ends_at ((state_of l.book).clock + 1)) (take l.lease-index l.lease-items))
