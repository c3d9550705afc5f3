use Rattle.std.proofs.Common.{◌≡◌, ◌++◌, string_bytes}
use Rattle.std.specs.Prelude.{flat_map}
use Rattle.lrc_book.specs.Books.{state_of}
use Rattle.lrc_show.specs.Listed.{shown_stripe}
use Rattle.lrc_book.proofs.StripeLemmas.{stripes_below}
use Rattle.lrc_show.proofs.stripes.push_stripes.Given as goal

-- the rows of the stripe numbers so far
abbrev pub invariant-loop-number : goal.invariant-loop-number
invariant-loop-number l = string_bytes l.out ≡ string_bytes l.initial.out ++ flat_map (shown_stripe l.book.nodes (state_of l.book)) (stripes_below (state_of l.book) l.number)
