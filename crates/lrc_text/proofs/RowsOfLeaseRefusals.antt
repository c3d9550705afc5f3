-- Which leases are refused, what a lease bars and how its fragment is rebuilt, computed from the definitions.
use Rattle.std.proofs.Common.{◌≡◌, [], ◌∷◌, None, refl, codes}
use Rattle.std.specs.Fmt.{digits}
use Rattle.lrc_rules.specs.Repairs.{kind}
use Rattle.lrc_rules.specs.Placement.{chosen, placed}
use Rattle.lrc_rules.specs.Leases.{lease_outcome, done_outcome, abandon_outcome, revoke_outcome}
use Rattle.lrc_rules.specs.Steps.{place_outcome, drop_outcome, node_outcome}
use Rattle.lrc_text.proofs.Rows.{place, remove, lease, done, abandon, revoke, fail, down, ten_domains, single_slots, printed, missing_after, margin_after}

-- ---- refusals

-- a fragment that has a home needs no lease, also where its stripe can not be rebuilt
down_is_not_homeless :
    printed ten_domains (place 1 ∷ down 0 ∷ down 1 ∷ down 2 ∷ down 3 ∷ lease 1 0 ∷ [])
    ≡ codes "script 1\n1 placed 0:0 1:0 2:0 3:0 4:0 5:0 6:0 7:0 8:0 9:0 10:0 11:0 16:0 12:0 13:0 14:0\n2 changed\n3 changed\n4 changed\n5 changed\n6 refused 111\n"
unfolding place_outcome drop_outcome lease_outcome done_outcome abandon_outcome revoke_outcome node_outcome kind placed chosen digits
down_is_not_homeless = refl

down_is_missing : missing_after ten_domains (place 1 ∷ down 0 ∷ down 1 ∷ down 2 ∷ down 3 ∷ []) ≡ 0 ∷ 1 ∷ 2 ∷ 3 ∷ []
unfolding place_outcome node_outcome placed chosen
down_is_missing = refl

down_has_no_margin : margin_after ten_domains (place 1 ∷ down 0 ∷ down 1 ∷ down 2 ∷ down 3 ∷ []) ≡ None
unfolding place_outcome node_outcome placed chosen
down_has_no_margin = refl

-- a fragment that its local group gives back is leased also where the stripe is lost
local_in_a_lost_stripe :
    printed ten_domains (place 1 ∷ fail 0 ∷ fail 1 ∷ fail 2 ∷ fail 4 ∷ fail 6 ∷ lease 1 0 ∷ lease 1 6 ∷ [])
    ≡ codes "script 1\n1 placed 0:0 1:0 2:0 3:0 4:0 5:0 6:0 7:0 8:0 9:0 10:0 11:0 16:0 12:0 13:0 14:0\n2 changed\n3 changed\n4 changed\n5 changed\n6 changed\n7 refused 112\n8 granted 1 6 15:0 epoch 1 local 7 8 9 10 11 13\n"
unfolding place_outcome drop_outcome lease_outcome done_outcome abandon_outcome revoke_outcome node_outcome kind placed chosen digits
local_in_a_lost_stripe = refl

-- whether there is a node is looked at last
unrecoverable_before_no_node :
    printed single_slots (place 1 ∷ fail 15 ∷ fail 17 ∷ fail 18 ∷ fail 19 ∷ fail 0 ∷ fail 1 ∷ fail 2 ∷ fail 4 ∷ fail 6 ∷ lease 1 0 ∷ lease 1 6 ∷ [])
    ≡ codes "script 1\n1 placed 0:0 1:0 2:0 3:0 4:0 5:0 6:0 7:0 8:0 9:0 10:0 11:0 16:0 12:0 13:0 14:0\n2 changed\n3 changed\n4 changed\n5 changed\n6 changed\n7 changed\n8 changed\n9 changed\n10 changed\n11 refused 112\n12 refused 103 6\n"
unfolding place_outcome drop_outcome lease_outcome done_outcome abandon_outcome revoke_outcome node_outcome kind placed chosen digits
unrecoverable_before_no_node = refl

-- a live lease is reported first
leased_before_unrecoverable :
    printed ten_domains (place 1 ∷ fail 3 ∷ lease 1 3 ∷ fail 0 ∷ fail 1 ∷ fail 2 ∷ lease 1 3 ∷ lease 1 0 ∷ [])
    ≡ codes "script 1\n1 placed 0:0 1:0 2:0 3:0 4:0 5:0 6:0 7:0 8:0 9:0 10:0 11:0 16:0 12:0 13:0 14:0\n2 changed\n3 granted 1 3 17:0 epoch 1 local 0 1 2 4 5 12\n4 changed\n5 changed\n6 changed\n7 refused 110 1\n8 refused 112\n"
unfolding place_outcome drop_outcome lease_outcome done_outcome abandon_outcome revoke_outcome node_outcome kind placed chosen digits
leased_before_unrecoverable = refl

-- nothing is leased of a stripe that is not there, or is there no longer
no_such_stripe :
    printed ten_domains (lease 1 3 ∷ done 1 3 1 ∷ abandon 1 3 1 ∷ revoke 1 3 ∷ place 1 ∷ fail 3 ∷ lease 1 3 ∷ remove 1 ∷ done 1 3 1 ∷ [])
    ≡ codes "script 1\n1 refused 101\n2 refused 101\n3 refused 101\n4 refused 101\n5 placed 0:0 1:0 2:0 3:0 4:0 5:0 6:0 7:0 8:0 9:0 10:0 11:0 16:0 12:0 13:0 14:0\n6 changed\n7 granted 1 3 17:0 epoch 1 local 0 1 2 4 5 12\n8 dropped\n9 refused 101\n"
unfolding place_outcome drop_outcome lease_outcome done_outcome abandon_outcome revoke_outcome node_outcome kind placed chosen digits
no_such_stripe = refl

-- without a lease every epoch is stale
no_need_and_no_lease :
    printed ten_domains (place 1 ∷ lease 1 3 ∷ done 1 3 0 ∷ done 1 3 1 ∷ abandon 1 3 1 ∷ revoke 1 3 ∷ [])
    ≡ codes "script 1\n1 placed 0:0 1:0 2:0 3:0 4:0 5:0 6:0 7:0 8:0 9:0 10:0 11:0 16:0 12:0 13:0 14:0\n2 refused 111\n3 refused 113\n4 refused 113\n5 refused 113\n6 refused 116\n"
unfolding place_outcome drop_outcome lease_outcome done_outcome abandon_outcome revoke_outcome node_outcome kind placed chosen digits
no_need_and_no_lease = refl

-- ---- targets

-- a target counts as a load, so another stripe goes elsewhere first
targets_are_seats :
    printed ten_domains (place 1 ∷ fail 3 ∷ lease 1 3 ∷ place 2 ∷ [])
    ≡ codes "script 1\n1 placed 0:0 1:0 2:0 3:0 4:0 5:0 6:0 7:0 8:0 9:0 10:0 11:0 16:0 12:0 13:0 14:0\n2 changed\n3 granted 1 3 17:0 epoch 1 local 0 1 2 4 5 12\n4 placed 15:0 18:0 19:0 0:1 1:1 2:1 4:1 5:1 6:1 7:1 8:1 9:1 13:1 10:1 11:1 12:1\n"
unfolding place_outcome drop_outcome lease_outcome done_outcome abandon_outcome revoke_outcome node_outcome kind placed chosen digits
targets_are_seats = refl

-- a leased fragment is missing, and its target bars the domains of its node
targets_bar_domains :
    printed ten_domains (place 1 ∷ fail 3 ∷ lease 1 3 ∷ fail 4 ∷ lease 1 4 ∷ done 1 3 1 ∷ lease 1 4 ∷ revoke 1 4 ∷ lease 1 4 ∷ [])
    ≡ codes "script 1\n1 placed 0:0 1:0 2:0 3:0 4:0 5:0 6:0 7:0 8:0 9:0 10:0 11:0 16:0 12:0 13:0 14:0\n2 changed\n3 granted 1 3 17:0 epoch 1 local 0 1 2 4 5 12\n4 changed\n5 granted 1 4 18:0 epoch 1 global\n6 ended\n7 refused 110 1\n8 ended\n9 granted 1 4 18:0 epoch 2 local 0 1 2 3 5 12\n"
unfolding place_outcome drop_outcome lease_outcome done_outcome abandon_outcome revoke_outcome node_outcome kind placed chosen digits
targets_bar_domains = refl
