use Rattle.std.proofs.Common.{◌≡◌, ◌++◌, take}
use Rattle.std.specs.Prelude.{flat_map, option_to_list}
use Rattle.lrc_code.specs.Codes.{all_fragments}
use Rattle.lrc_rules.specs.States.{lease_of}
use Rattle.lrc_book.specs.Books.{state_of}
use Rattle.lrc_show.proofs.leases.gather_leases.Given as goal

-- the leases of the fragments so far
abbrev pub invariant-loop-fragment : goal.invariant-loop-fragment
invariant-loop-fragment l = l.rows.items ≡ l.initial.rows.items ++ flat_map (λ f. option_to_list (lease_of (state_of l.book) l.stripe f)) (take l.fragment-index all_fragments)
