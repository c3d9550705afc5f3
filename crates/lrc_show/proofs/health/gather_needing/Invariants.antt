use Rattle.std.proofs.Common.{◌≡◌, ◌++◌, take}
use Rattle.std.specs.Prelude.{flat_map}
use Rattle.lrc_code.specs.Codes.{all_fragments}
use Rattle.lrc_book.specs.Books.{state_of}
use Rattle.lrc_show.proofs.HealthLemmas.{own_need}
use Rattle.lrc_show.proofs.health.gather_needing.Given as goal

-- the fragments so far
abbrev pub invariant-loop-fragment : goal.invariant-loop-fragment
invariant-loop-fragment l = l.rows.items ≡ l.initial.rows.items ++ flat_map (own_need l.book.nodes (state_of l.book) l.stripe) (take l.fragment-index all_fragments)
