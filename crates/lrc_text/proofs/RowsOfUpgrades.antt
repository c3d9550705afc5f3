-- What scripts that upgrade domains print, computed from the definitions.
use Rattle.std.proofs.Common.{◌≡◌, [], ◌∷◌, ◌++◌, refl, codes}
use Rattle.std.specs.Fmt.{digits}
use Rattle.lrc_rules.specs.Repairs.{kind}
use Rattle.lrc_rules.specs.Placement.{chosen, placed}
use Rattle.lrc_rules.specs.Leases.{lease_outcome, done_outcome}
use Rattle.lrc_rules.specs.Steps.{place_outcome, node_outcome, upgrade_outcome, upgraded_outcome, would_lose}
use Rattle.lrc_text.proofs.Rows.{place, lease, done, fail, drain, undrain, join, upgrade, upgraded, ten_domains, printed, one_placed, two_placed}

-- one domain is upgraded at a time, where no stripe is lost by it
one_domain_at_a_time :
    printed ten_domains (place 1 ∷ upgrade 0 ∷ upgrade 1 ∷ upgraded 1 ∷ upgraded 0 ∷ fail 1 ∷ fail 2 ∷ fail 3 ∷ upgrade 0 ∷ [])
    ≡ one_placed ++ codes "2 changed\n3 refused 107 0\n4 refused 108\n5 changed\n6 changed\n7 changed\n8 changed\n9 refused 109 1\n"
unfolding place_outcome node_outcome upgrade_outcome upgraded_outcome would_lose placed chosen digits
one_domain_at_a_time = refl

-- a node in the upgrading domain is the target of no lease
upgrading_takes_no_seats :
    printed ten_domains (place 1 ∷ fail 3 ∷ upgrade 7 ∷ lease 1 3 ∷ [])
    ≡ one_placed ++ codes "2 changed\n3 changed\n4 granted 1 3 18:0 epoch 1 local 0 1 2 4 5 12\n"
unfolding place_outcome lease_outcome node_outcome upgrade_outcome would_lose kind placed chosen digits
upgrading_takes_no_seats = refl

-- a report waits until its target's domain was upgraded
a_target_upgrades :
    printed ten_domains (place 1 ∷ fail 3 ∷ lease 1 3 ∷ drain 17 ∷ upgrade 7 ∷ done 1 3 1 ∷ upgraded 7 ∷ undrain 17 ∷ done 1 3 1 ∷ [])
    ≡ one_placed ++ codes "2 changed\n3 granted 1 3 17:0 epoch 1 local 0 1 2 4 5 12\n4 changed\n5 changed\n6 refused 115 17\n7 changed\n8 changed\n9 ended\n"
unfolding place_outcome lease_outcome done_outcome node_outcome upgrade_outcome upgraded_outcome would_lose kind placed chosen digits
a_target_upgrades = refl

-- a node that joins in the upgrading domain is not online yet
joined_offline :
    printed ten_domains (fail 0 ∷ upgrade 0 ∷ join 0 ∷ place 1 ∷ [])
    ≡ codes "script 1\n1 changed\n2 changed\n3 changed\n4 placed 1:0 2:0 3:0 4:0 5:0 6:0 7:0 8:0 9:0 11:0 12:0 13:0 17:0 14:0 15:0 16:0\n"
unfolding place_outcome node_outcome upgrade_outcome would_lose placed chosen digits
joined_offline = refl

-- a domain is known by nodes that are gone, and an unknown one is refused first
domains_of_gone_nodes :
    printed ten_domains (fail 0 ∷ fail 10 ∷ upgrade 0 ∷ upgrade 0 ∷ upgrade 10 ∷ upgraded 1 ∷ upgraded 10 ∷ upgraded 0 ∷ upgraded 0 ∷ [])
    ≡ codes "script 1\n1 changed\n2 changed\n3 changed\n4 refused 107 0\n5 refused 106\n6 refused 108\n7 refused 106\n8 changed\n9 refused 108\n"
unfolding node_outcome upgrade_outcome upgraded_outcome would_lose chosen digits
domains_of_gone_nodes = refl

-- a running upgrade is reported before a stripe that would be lost, and a lease saves none
running_before_lost :
    printed ten_domains (place 1 ∷ fail 1 ∷ fail 2 ∷ fail 3 ∷ lease 1 1 ∷ upgrade 5 ∷ upgrade 7 ∷ upgrade 5 ∷ upgraded 5 ∷ upgraded 7 ∷ [])
    ≡ one_placed ++ codes "2 changed\n3 changed\n4 changed\n5 granted 1 1 17:0 epoch 1 global\n6 refused 109 1\n7 changed\n8 refused 107 7\n9 refused 108\n10 changed\n"
unfolding place_outcome lease_outcome node_outcome upgrade_outcome upgraded_outcome would_lose kind placed chosen digits
running_before_lost = refl

-- the least stripe that would be lost is reported, of those that are not lost already
the_least_stripe_lost :
    printed ten_domains (place 9 ∷ place 1 ∷ fail 0 ∷ fail 1 ∷ fail 2 ∷ fail 12 ∷ upgrade 5 ∷ fail 17 ∷ upgrade 5 ∷ fail 16 ∷ upgrade 5 ∷ [])
    ≡ two_placed ++ codes "3 changed\n4 changed\n5 changed\n6 changed\n7 refused 109 1\n8 changed\n9 refused 109 9\n10 changed\n11 changed\n"
unfolding place_outcome node_outcome upgrade_outcome would_lose placed chosen digits
the_least_stripe_lost = refl
