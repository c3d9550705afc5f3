use Rattle.std.proofs.Common.{◌≡◌, ◌++◌, take, string_bytes}
use Rattle.std.specs.Prelude.{flat_map}
use Rattle.lrc_code.specs.Codes.{all_fragments}
use Rattle.lrc_book.specs.Books.{state_of}
use Rattle.lrc_show.proofs.WorkLemmas.{own_row}
use Rattle.lrc_show.proofs.work.push_stripe_work.Given as goal

-- the rows of the fragments so far
abbrev pub invariant-loop-fragment : goal.invariant-loop-fragment
invariant-loop-fragment l = string_bytes l.out ≡ string_bytes l.initial.out ++ flat_map (own_row l.book.nodes (state_of l.book) l.stripe) (take l.fragment-index all_fragments)
