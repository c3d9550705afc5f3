-- What scripts with ticks print, computed from the definitions.
use Rattle.std.proofs.Common.{◌≡◌, [], ◌∷◌, ◌++◌, refl, codes}
use Rattle.std.specs.Fmt.{digits}
use Rattle.lrc_book.specs.Levels.{rank_by}
use Rattle.lrc_rules.specs.Repairs.{kind}
use Rattle.lrc_rules.specs.Urgency.{next_of}
use Rattle.lrc_rules.specs.Placement.{chosen, placed}
use Rattle.lrc_rules.specs.Leases.{lease_outcome, next_outcome, done_outcome, tick_outcome}
use Rattle.lrc_rules.specs.Steps.{place_outcome, node_outcome}
use Rattle.lrc_text.proofs.Rows.{place, lease, next, done, fail, tick, ten_domains, printed, one_placed}

-- a lease ends at the third tick, what is then reported of it is stale, and the next lease has a term of its own
lease_ends :
    printed ten_domains (place 1 ∷ fail 3 ∷ lease 1 3 ∷ tick ∷ tick ∷ tick ∷ done 1 3 1 ∷ lease 1 3 ∷ tick ∷ done 1 3 2 ∷ [])
    ≡ one_placed ++ codes "2 changed\n3 granted 1 3 17:0 epoch 1 local 0 1 2 4 5 12\n4 ticked 1 0\n5 ticked 2 0\n6 ticked 3 1\n7 refused 113\n8 granted 1 3 17:0 epoch 2 local 0 1 2 4 5 12\n9 ticked 4 0\n10 ended\n"
unfolding place_outcome lease_outcome done_outcome node_outcome tick_outcome kind placed chosen digits
lease_ends = refl

-- leases that were granted at two clocks end at two
two_terms :
    printed ten_domains (place 1 ∷ fail 3 ∷ fail 4 ∷ next ∷ tick ∷ next ∷ tick ∷ tick ∷ tick ∷ [])
    ≡ one_placed ++ codes "2 changed\n3 changed\n4 granted 1 3 17:0 epoch 1 global\n5 ticked 1 0\n6 granted 1 4 18:0 epoch 1 global\n7 ticked 2 0\n8 ticked 3 1\n9 ticked 4 1\n"
unfolding place_outcome lease_outcome next_outcome node_outcome tick_outcome next_of kind placed chosen digits rank_by
two_terms = refl
