use Rattle.std.proofs.Common.{◌≡◌, ◌++◌, take, string_bytes}
use Rattle.std.specs.Prelude.{flat_map}
use Rattle.lrc_code.specs.Codes.{all_fragments}
use Rattle.lrc_book.specs.Books.{state_of}
use Rattle.lrc_show.proofs.FragmentLemmas.{own_fragment}
use Rattle.lrc_show.proofs.fragments.push_stripe_fragments.Given as goal

-- the rows of the fragments so far
abbrev pub invariant-loop-fragment : goal.invariant-loop-fragment
invariant-loop-fragment l = string_bytes l.out ≡ string_bytes l.initial.out ++ flat_map (own_fragment l.book.nodes (state_of l.book) l.stripe) (take l.fragment-index all_fragments)
