-- In which order Next repairs, computed from the definitions.
use Rattle.std.proofs.Common.{◌≡◌, [], ◌∷◌, ◌++◌, refl, codes}
use Rattle.std.specs.Fmt.{digits}
use Rattle.lrc_book.specs.Levels.{rank_by}
use Rattle.lrc_rules.specs.Repairs.{kind}
use Rattle.lrc_rules.specs.Urgency.{next_of}
use Rattle.lrc_rules.specs.Placement.{chosen, placed}
use Rattle.lrc_rules.specs.Leases.{lease_outcome, next_outcome, done_outcome, abandon_outcome, revoke_outcome}
use Rattle.lrc_rules.specs.Steps.{place_outcome, drop_outcome, node_outcome}
use Rattle.lrc_text.proofs.Rows.{session, second, printed_by_two, place, remove, lease, next, done, abandon, revoke, fail, down, up, drain, ten_domains, printed, one_placed, two_placed}

-- the stripe with the least margin comes first, and its fragments in rising order
most_urgent_first :
    printed ten_domains (place 1 ∷ place 2 ∷ fail 17 ∷ fail 18 ∷ fail 19 ∷ fail 11 ∷ next ∷ next ∷ next ∷ next ∷ next ∷ [])
    ≡ two_placed ++ codes "3 changed\n4 changed\n5 changed\n6 changed\n7 granted 2 1 13:1 epoch 1 global\n8 granted 2 2 14:1 epoch 1 global\n9 granted 2 3 16:1 epoch 1 global\n10 granted 1 11 15:1 epoch 1 local 6 7 8 9 10 13\n11 idle\n"
unfolding place_outcome lease_outcome next_outcome node_outcome next_of kind placed chosen digits rank_by
most_urgent_first = refl

-- a stripe whose fragments find no node is passed over
urgent_without_a_target :
    printed ten_domains (place 1 ∷ place 2 ∷ fail 17 ∷ fail 18 ∷ fail 19 ∷ fail 11 ∷ drain 13 ∷ drain 14 ∷ drain 16 ∷ next ∷ next ∷ [])
    ≡ two_placed ++ codes "3 changed\n4 changed\n5 changed\n6 changed\n7 changed\n8 changed\n9 changed\n10 granted 1 11 15:1 epoch 1 local 6 7 8 9 10 13\n11 idle\n"
unfolding place_outcome lease_outcome next_outcome node_outcome next_of kind placed chosen digits rank_by
urgent_without_a_target = refl

-- nodes that are up again make their stripe less urgent
up_again_is_less_urgent :
    printed ten_domains (place 1 ∷ place 2 ∷ fail 3 ∷ down 17 ∷ down 18 ∷ up 17 ∷ up 18 ∷ next ∷ next ∷ [])
    ≡ two_placed ++ codes "3 changed\n4 changed\n5 changed\n6 changed\n7 changed\n8 granted 1 3 17:1 epoch 1 local 0 1 2 4 5 12\n9 granted 2 7 11:1 epoch 1 local 6 8 9 10 11 13\n"
unfolding place_outcome lease_outcome next_outcome node_outcome next_of kind placed chosen digits rank_by
up_again_is_less_urgent = refl

-- fragments on nodes that are down count as missing, also where they need no lease
offline_is_urgent :
    printed ten_domains (place 1 ∷ place 2 ∷ fail 3 ∷ down 17 ∷ down 18 ∷ next ∷ next ∷ [])
    ≡ two_placed ++ codes "3 changed\n4 changed\n5 changed\n6 granted 2 7 11:1 epoch 1 local 6 8 9 10 11 13\n7 granted 1 3 19:1 epoch 1 local 0 1 2 4 5 12\n"
unfolding place_outcome lease_outcome next_outcome node_outcome next_of kind placed chosen digits rank_by
offline_is_urgent = refl

-- a lost stripe comes last, but what its local groups give back is leased
lost_comes_last :
    printed ten_domains (place 1 ∷ place 2 ∷ fail 0 ∷ fail 1 ∷ fail 2 ∷ fail 4 ∷ fail 11 ∷ next ∷ next ∷ next ∷ next ∷ [])
    ≡ two_placed ++ codes "3 changed\n4 changed\n5 changed\n6 changed\n7 changed\n8 granted 2 4 13:1 epoch 1 global\n9 granted 2 5 14:1 epoch 1 global\n10 granted 1 11 15:1 epoch 1 local 6 7 8 9 10 13\n11 idle\n"
unfolding place_outcome lease_outcome next_outcome node_outcome next_of kind placed chosen digits rank_by
lost_comes_last = refl

-- a whole stripe with a draining home comes after those at risk
at_risk_before_moves :
    printed ten_domains (place 1 ∷ place 2 ∷ drain 16 ∷ fail 17 ∷ next ∷ next ∷ next ∷ [])
    ≡ two_placed ++ codes "3 changed\n4 changed\n5 granted 2 1 13:1 epoch 1 local 0 2 3 4 5 12\n6 granted 1 12 18:1 epoch 1 move\n7 idle\n"
unfolding place_outcome lease_outcome next_outcome node_outcome next_of kind placed chosen digits rank_by
at_risk_before_moves = refl

-- grants by Next count as those by Lease, and refused leases do not
epochs_count_grants :
    printed ten_domains (place 1 ∷ lease 1 3 ∷ fail 3 ∷ next ∷ revoke 1 3 ∷ lease 1 3 ∷ abandon 1 3 2 ∷ next ∷ next ∷ [])
    ≡ one_placed ++ codes "2 refused 111\n3 changed\n4 granted 1 3 17:0 epoch 1 local 0 1 2 4 5 12\n5 ended\n6 granted 1 3 17:0 epoch 2 local 0 1 2 4 5 12\n7 ended\n8 granted 1 3 17:0 epoch 3 local 0 1 2 4 5 12\n9 idle\n"
unfolding place_outcome lease_outcome next_outcome abandon_outcome revoke_outcome node_outcome next_of kind placed chosen digits rank_by
epochs_count_grants = refl

-- where there is nothing to repair, Next is idle, and has its place in the history
idle_takes_a_place :
    printed ten_domains (next ∷ place 1 ∷ next ∷ remove 1 ∷ next ∷ [])
    ≡ codes "script 1\n1 idle\n2 placed 0:0 1:0 2:0 3:0 4:0 5:0 6:0 7:0 8:0 9:0 10:0 11:0 16:0 12:0 13:0 14:0\n3 idle\n4 dropped\n5 idle\n"
unfolding place_outcome drop_outcome lease_outcome next_outcome next_of kind placed chosen digits rank_by
idle_takes_a_place = refl

-- Next grants to the session that asks
granted_to_the_caller :
    printed_by_two ten_domains ((session, place 1) ∷ (session, drain 0) ∷ (second, next) ∷ (session, done 1 0 1) ∷ (session, next) ∷ (second, done 1 0 1) ∷ [])
    ≡ one_placed ++ codes "2 changed\n4 refused 114 2\n5 idle\nscript 2\n3 granted 1 0 17:0 epoch 1 move\n6 ended\n"
unfolding place_outcome lease_outcome next_outcome done_outcome node_outcome next_of kind placed chosen digits rank_by
granted_to_the_caller = refl
