use Rattle.std.proofs.Common.{◌≡◌, ◌++◌, take}
use Rattle.std.specs.Prelude.{flat_map, option_map, option_to_list}
use Rattle.lrc_code.specs.Codes.{fragments, all_fragments}
use Rattle.lrc_rules.specs.States.{State, lease_of}
use Rattle.lrc_images.specs.Rows.{lease_row}
use Rattle.lrc_store.specs.Stores.{IsOf}
use Rattle.lrc_book.proofs.image.push_leases.Given as goal

-- the rows of the leases of the fragments so far
abbrev pub invariant-loop-fragment : goal.invariant-loop-fragment
invariant-loop-fragment l = (st : State) → IsOf st l.store
    → l.rows.items ≡ l.initial.rows.items ++ flat_map (λ f. option_to_list (option_map lease_row (lease_of st l.stripe f))) (take l.fragment-index all_fragments)
