-- What scripts that drain and retire nodes print, computed from the definitions.
use Rattle.std.proofs.Common.{◌≡◌, [], ◌∷◌, ◌++◌, refl, codes}
use Rattle.std.specs.Fmt.{digits}
use Rattle.lrc_book.specs.Levels.{rank_by}
use Rattle.lrc_rules.specs.Repairs.{kind}
use Rattle.lrc_rules.specs.Urgency.{next_of}
use Rattle.lrc_rules.specs.Placement.{chosen, placed}
use Rattle.lrc_rules.specs.Leases.{lease_outcome, next_outcome, done_outcome, abandon_outcome}
use Rattle.lrc_rules.specs.Steps.{place_outcome, drop_outcome, node_outcome, upgrade_outcome, would_lose}
use Rattle.lrc_text.proofs.Rows.{place, remove, lease, next, done, abandon, fail, down, up, drain, undrain, retire, join, upgrade, ten_domains, single_slots, printed, one_placed}

-- a drained node is retired once its home was moved away
moved_and_retired :
    printed ten_domains (place 1 ∷ drain 0 ∷ retire 0 ∷ lease 1 0 ∷ down 17 ∷ done 1 0 1 ∷ up 17 ∷ done 1 0 1 ∷ retire 0 ∷ [])
    ≡ one_placed ++ codes "2 changed\n3 refused 117 1\n4 granted 1 0 17:0 epoch 1 move\n5 changed\n6 refused 115 17\n7 changed\n8 ended\n9 changed\n"
unfolding place_outcome lease_outcome done_outcome node_outcome kind placed chosen digits
moved_and_retired = refl

-- a lease outlives the draining, and its report moves the fragment
moved_after_undrain :
    printed ten_domains (place 1 ∷ drain 0 ∷ next ∷ undrain 0 ∷ done 1 0 1 ∷ retire 0 ∷ [])
    ≡ one_placed ++ codes "2 changed\n3 granted 1 0 17:0 epoch 1 move\n4 changed\n5 ended\n6 refused 105\n"
unfolding place_outcome lease_outcome next_outcome done_outcome node_outcome next_of kind placed chosen digits rank_by
moved_after_undrain = refl

-- a home that fails ends the lease of its move
a_failed_home_ends_its_move :
    printed ten_domains (place 1 ∷ drain 0 ∷ lease 1 0 ∷ fail 0 ∷ lease 1 0 ∷ [])
    ≡ one_placed ++ codes "2 changed\n3 granted 1 0 17:0 epoch 1 move\n4 changed\n5 granted 1 0 17:0 epoch 2 local 1 2 3 4 5 12\n"
unfolding place_outcome lease_outcome node_outcome kind placed chosen digits
a_failed_home_ends_its_move = refl

-- a moved fragment is leased also where its stripe is lost
one_refusal_after_another :
    printed ten_domains (place 1 ∷ place 1 ∷ remove 2 ∷ lease 1 3 ∷ fail 99 ∷ up 0 ∷ upgrade 10 ∷ undrain 0 ∷ fail 0 ∷ fail 1 ∷ fail 2 ∷ fail 4 ∷ lease 1 0 ∷ drain 5 ∷ lease 1 5 ∷ join 0 ∷ join 0 ∷ [])
    ≡ one_placed ++ codes "2 refused 102\n3 refused 101\n4 refused 111\n5 refused 104\n6 refused 105\n7 refused 106\n8 refused 105\n9 changed\n10 changed\n11 changed\n12 changed\n13 refused 112\n14 changed\n15 granted 1 5 15:0 epoch 1 move\n16 changed\n17 refused 105\n"
unfolding place_outcome drop_outcome lease_outcome node_outcome upgrade_outcome would_lose kind placed chosen digits
one_refusal_after_another = refl

-- a live lease is reported before that its fragment needs none
leased_before_not_needed :
    printed ten_domains (place 1 ∷ drain 0 ∷ lease 1 0 ∷ undrain 0 ∷ lease 1 0 ∷ next ∷ abandon 1 0 1 ∷ lease 1 0 ∷ [])
    ≡ one_placed ++ codes "2 changed\n3 granted 1 0 17:0 epoch 1 move\n4 changed\n5 refused 110 1\n6 idle\n7 ended\n8 refused 111\n"
unfolding place_outcome lease_outcome next_outcome abandon_outcome node_outcome next_of kind placed chosen digits rank_by
leased_before_not_needed = refl

-- the home and the target of a fragment that moves both bar their domains, until it is moved
both_ends_of_a_move_bar :
    printed ten_domains (place 1 ∷ drain 7 ∷ lease 1 7 ∷ fail 8 ∷ lease 1 8 ∷ done 1 7 1 ∷ fail 9 ∷ lease 1 9 ∷ [])
    ≡ one_placed ++ codes "2 changed\n3 granted 1 7 15:0 epoch 1 move\n4 changed\n5 granted 1 8 18:0 epoch 1 local 6 7 9 10 11 13\n6 ended\n7 changed\n8 granted 1 9 17:0 epoch 1 global\n"
unfolding place_outcome lease_outcome done_outcome node_outcome kind placed chosen digits
both_ends_of_a_move_bar = refl

-- a node whose slots are taken by targets takes no more
full_of_targets :
    printed single_slots (place 1 ∷ drain 0 ∷ lease 1 0 ∷ drain 1 ∷ lease 1 1 ∷ drain 2 ∷ lease 1 2 ∷ drain 3 ∷ lease 1 3 ∷ next ∷ [])
    ≡ one_placed ++ codes "2 changed\n3 granted 1 0 17:0 epoch 1 move\n4 changed\n5 granted 1 1 18:0 epoch 1 move\n6 changed\n7 granted 1 2 19:0 epoch 1 move\n8 changed\n9 refused 103 3\n10 idle\n"
unfolding place_outcome lease_outcome next_outcome node_outcome next_of kind placed chosen digits rank_by
full_of_targets = refl

-- a draining node is the target of no lease
draining_takes_no_seats :
    printed ten_domains (place 1 ∷ fail 3 ∷ drain 17 ∷ lease 1 3 ∷ [])
    ≡ one_placed ++ codes "2 changed\n3 changed\n4 granted 1 3 18:0 epoch 1 local 0 1 2 4 5 12\n"
unfolding place_outcome lease_outcome node_outcome kind placed chosen digits
draining_takes_no_seats = refl

-- a target counts as a load, so its node is not retired
targets_keep_a_node :
    printed ten_domains (place 1 ∷ fail 3 ∷ lease 1 3 ∷ drain 17 ∷ retire 17 ∷ abandon 1 3 1 ∷ retire 17 ∷ [])
    ≡ one_placed ++ codes "2 changed\n3 granted 1 3 17:0 epoch 1 local 0 1 2 4 5 12\n4 changed\n5 refused 117 1\n6 ended\n7 changed\n"
unfolding place_outcome lease_outcome abandon_outcome node_outcome kind placed chosen digits
targets_keep_a_node = refl

-- a home on a draining node that is down is rebuilt, and not moved
offline_is_no_move :
    printed ten_domains (place 1 ∷ drain 0 ∷ down 0 ∷ lease 1 0 ∷ [])
    ≡ one_placed ++ codes "2 changed\n3 changed\n4 granted 1 0 17:0 epoch 1 local 1 2 3 4 5 12\n"
unfolding place_outcome lease_outcome node_outcome kind placed chosen digits
offline_is_no_move = refl

-- and it is refused where it could only be rebuilt from a stripe that does not suffice
offline_and_beyond_repair :
    printed ten_domains (place 1 ∷ drain 0 ∷ down 0 ∷ down 1 ∷ down 2 ∷ down 4 ∷ lease 1 0 ∷ next ∷ up 1 ∷ lease 1 0 ∷ [])
    ≡ one_placed ++ codes "2 changed\n3 changed\n4 changed\n5 changed\n6 changed\n7 refused 112\n8 idle\n9 changed\n10 granted 1 0 17:0 epoch 1 global\n"
unfolding place_outcome lease_outcome next_outcome node_outcome next_of kind placed chosen digits rank_by
offline_and_beyond_repair = refl

-- a report may bring a home onto a draining node, from which it is moved again
done_on_a_draining_node :
    printed ten_domains (place 1 ∷ fail 3 ∷ lease 1 3 ∷ drain 17 ∷ done 1 3 1 ∷ lease 1 3 ∷ [])
    ≡ one_placed ++ codes "2 changed\n3 granted 1 3 17:0 epoch 1 local 0 1 2 4 5 12\n4 changed\n5 ended\n6 granted 1 3 18:0 epoch 2 move\n"
unfolding place_outcome lease_outcome done_outcome node_outcome kind placed chosen digits
done_on_a_draining_node = refl

-- no change of a target's node but its failure ends the lease
modes_of_targets :
    printed ten_domains (place 1 ∷ fail 3 ∷ lease 1 3 ∷ drain 17 ∷ down 17 ∷ undrain 17 ∷ up 17 ∷ done 1 3 1 ∷ [])
    ≡ one_placed ++ codes "2 changed\n3 granted 1 3 17:0 epoch 1 local 0 1 2 4 5 12\n4 changed\n5 changed\n6 changed\n7 changed\n8 ended\n"
unfolding place_outcome lease_outcome done_outcome node_outcome kind placed chosen digits
modes_of_targets = refl

-- a node that fails is neither draining nor down after it
failed_and_joined :
    printed ten_domains (drain 0 ∷ down 0 ∷ fail 0 ∷ up 0 ∷ drain 0 ∷ join 0 ∷ undrain 0 ∷ up 0 ∷ [])
    ≡ codes "script 1\n1 changed\n2 changed\n3 changed\n4 refused 105\n5 refused 105\n6 changed\n7 refused 105\n8 refused 105\n"
unfolding node_outcome chosen digits
failed_and_joined = refl

-- a node may be down and draining, and one that is retired is not down
down_and_retired :
    printed ten_domains (drain 15 ∷ drain 15 ∷ down 15 ∷ retire 15 ∷ up 15 ∷ retire 15 ∷ join 15 ∷ up 15 ∷ down 15 ∷ drain 15 ∷ undrain 15 ∷ undrain 15 ∷ [])
    ≡ codes "script 1\n1 changed\n2 refused 105\n3 changed\n4 changed\n5 refused 105\n6 refused 105\n7 changed\n8 refused 105\n9 changed\n10 changed\n11 changed\n12 refused 105\n"
unfolding node_outcome chosen digits
down_and_retired = refl

-- whether a node is draining is looked at before its load
not_draining_before_not_empty :
    printed ten_domains (place 1 ∷ retire 0 ∷ retire 99 ∷ drain 99 ∷ undrain 99 ∷ retire 15 ∷ [])
    ≡ one_placed ++ codes "2 refused 105\n3 refused 104\n4 refused 104\n5 refused 104\n6 refused 105\n"
unfolding place_outcome node_outcome placed chosen digits
not_draining_before_not_empty = refl
