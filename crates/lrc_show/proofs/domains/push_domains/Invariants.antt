use Rattle.std.proofs.Common.{◌≡◌, ◌++◌, take, string_bytes}
use Rattle.std.specs.Prelude.{flat_map}
use Rattle.lrc_book.specs.Books.{state_of}
use Rattle.lrc_show.specs.Summed.{shown_domain}
use Rattle.lrc_show.proofs.domains.push_domains.Given as goal

-- the rows of the domains so far
abbrev pub invariant-loop-domain : goal.invariant-loop-domain
invariant-loop-domain l =
    string_bytes l.out ≡ string_bytes l.initial.out ++ flat_map (shown_domain l.book.nodes (state_of l.book) l.outage) (take l.domain-index l.domain-items)
