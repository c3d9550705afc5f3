-- What scripts of leases print, computed from the definitions.
use Rattle.std.proofs.Common.{◌≡◌, [], ◌∷◌, Some, refl, codes}
use Rattle.std.specs.Fmt.{digits}
use Rattle.lrc_rules.specs.Repairs.{kind}
use Rattle.lrc_rules.specs.Placement.{chosen, placed}
use Rattle.lrc_rules.specs.Leases.{lease_outcome, done_outcome, abandon_outcome, revoke_outcome}
use Rattle.lrc_rules.specs.Steps.{place_outcome, drop_outcome, node_outcome}
use Rattle.lrc_text.proofs.Rows.{session, second, place, remove, lease, done, abandon, revoke, fail, down, up, ten_domains, printed, printed_by_two, missing_after, margin_after}

-- ---- grants and reports

-- a fragment that was rebuilt is missing no longer
leased_and_done :
    printed ten_domains (place 1 ∷ fail 3 ∷ lease 1 3 ∷ lease 1 3 ∷ done 1 3 2 ∷ done 1 3 1 ∷ [])
    ≡ codes "script 1\n1 placed 0:0 1:0 2:0 3:0 4:0 5:0 6:0 7:0 8:0 9:0 10:0 11:0 16:0 12:0 13:0 14:0\n2 changed\n3 granted 1 3 17:0 epoch 1 local 0 1 2 4 5 12\n4 refused 110 1\n5 refused 113\n6 ended\n"
unfolding place_outcome drop_outcome lease_outcome done_outcome abandon_outcome revoke_outcome node_outcome kind placed chosen digits
leased_and_done = refl

-- a lease is no home: the fragment is missing until the report
leased_is_missing : missing_after ten_domains (place 1 ∷ fail 3 ∷ lease 1 3 ∷ []) ≡ 3 ∷ []
unfolding place_outcome lease_outcome node_outcome kind placed chosen
leased_is_missing = refl

leased_margin : margin_after ten_domains (place 1 ∷ fail 3 ∷ lease 1 3 ∷ []) ≡ Some 2
unfolding place_outcome lease_outcome node_outcome kind placed chosen
leased_margin = refl

done_is_not_missing : missing_after ten_domains (place 1 ∷ fail 3 ∷ lease 1 3 ∷ done 1 3 1 ∷ []) ≡ []
unfolding place_outcome lease_outcome done_outcome node_outcome kind placed chosen
done_is_not_missing = refl

-- a lease that ended is no lease, and the next has the next epoch
revoked_and_abandoned :
    printed ten_domains (place 1 ∷ fail 3 ∷ lease 1 3 ∷ revoke 1 3 ∷ done 1 3 1 ∷ lease 1 3 ∷ abandon 1 3 2 ∷ revoke 1 3 ∷ [])
    ≡ codes "script 1\n1 placed 0:0 1:0 2:0 3:0 4:0 5:0 6:0 7:0 8:0 9:0 10:0 11:0 16:0 12:0 13:0 14:0\n2 changed\n3 granted 1 3 17:0 epoch 1 local 0 1 2 4 5 12\n4 ended\n5 refused 113\n6 granted 1 3 17:0 epoch 2 local 0 1 2 4 5 12\n7 ended\n8 refused 116\n"
unfolding place_outcome drop_outcome lease_outcome done_outcome abandon_outcome revoke_outcome node_outcome kind placed chosen digits
revoked_and_abandoned = refl

-- epochs go on where the stripe was dropped and placed again
epochs_go_on :
    printed ten_domains (place 1 ∷ fail 3 ∷ lease 1 3 ∷ remove 1 ∷ place 1 ∷ fail 4 ∷ lease 1 3 ∷ done 1 3 1 ∷ done 1 3 2 ∷ [])
    ≡ codes "script 1\n1 placed 0:0 1:0 2:0 3:0 4:0 5:0 6:0 7:0 8:0 9:0 10:0 11:0 16:0 12:0 13:0 14:0\n2 changed\n3 granted 1 3 17:0 epoch 1 local 0 1 2 4 5 12\n4 dropped\n5 placed 0:0 1:0 2:0 4:0 5:0 6:0 7:0 8:0 9:0 10:0 11:0 12:0 13:0 14:0 15:0 16:0\n6 changed\n7 granted 1 3 17:0 epoch 2 local 0 1 2 4 5 12\n8 refused 113\n9 ended\n"
unfolding place_outcome drop_outcome lease_outcome done_outcome abandon_outcome revoke_outcome node_outcome kind placed chosen digits
epochs_go_on = refl

-- a target that fails ends its lease
a_target_fails :
    printed ten_domains (place 1 ∷ fail 3 ∷ lease 1 3 ∷ fail 17 ∷ lease 1 3 ∷ done 1 3 1 ∷ done 1 3 2 ∷ [])
    ≡ codes "script 1\n1 placed 0:0 1:0 2:0 3:0 4:0 5:0 6:0 7:0 8:0 9:0 10:0 11:0 16:0 12:0 13:0 14:0\n2 changed\n3 granted 1 3 17:0 epoch 1 local 0 1 2 4 5 12\n4 changed\n5 granted 1 3 18:0 epoch 2 local 0 1 2 4 5 12\n6 refused 113\n7 ended\n"
unfolding place_outcome drop_outcome lease_outcome done_outcome abandon_outcome revoke_outcome node_outcome kind placed chosen digits
a_target_fails = refl

-- a target that is down ends no lease, but is reported on only when it is up again
a_target_is_down :
    printed ten_domains (place 1 ∷ fail 3 ∷ lease 1 3 ∷ down 17 ∷ done 1 3 1 ∷ up 17 ∷ done 1 3 1 ∷ revoke 1 3 ∷ [])
    ≡ codes "script 1\n1 placed 0:0 1:0 2:0 3:0 4:0 5:0 6:0 7:0 8:0 9:0 10:0 11:0 16:0 12:0 13:0 14:0\n2 changed\n3 granted 1 3 17:0 epoch 1 local 0 1 2 4 5 12\n4 changed\n5 refused 115 17\n6 changed\n7 ended\n8 refused 116\n"
unfolding place_outcome drop_outcome lease_outcome done_outcome abandon_outcome revoke_outcome node_outcome kind placed chosen digits
a_target_is_down = refl

-- ---- sessions

-- only its holder reports on a lease, and anyone ends it
by_another_session :
    printed_by_two ten_domains ((session, place 1) ∷ (session, fail 3) ∷ (session, lease 1 3) ∷ (second, lease 1 3) ∷ (second, done 1 3 1) ∷ (second, revoke 1 3) ∷ (second, lease 1 3) ∷ [])
    ≡ codes "script 1\n1 placed 0:0 1:0 2:0 3:0 4:0 5:0 6:0 7:0 8:0 9:0 10:0 11:0 16:0 12:0 13:0 14:0\n2 changed\n3 granted 1 3 17:0 epoch 1 local 0 1 2 4 5 12\nscript 2\n4 refused 110 1\n5 refused 114 1\n6 ended\n7 granted 1 3 17:0 epoch 2 local 0 1 2 4 5 12\n"
unfolding place_outcome drop_outcome lease_outcome done_outcome abandon_outcome revoke_outcome node_outcome kind placed chosen digits
by_another_session = refl

-- the epoch is looked at before the holder
stale_before_not_held :
    printed_by_two ten_domains ((session, place 1) ∷ (session, fail 3) ∷ (session, lease 1 3) ∷ (second, done 1 3 0) ∷ (second, done 1 3 2) ∷ (second, abandon 1 3 2) ∷ (second, abandon 1 3 1) ∷ (session, abandon 1 3 0) ∷ [])
    ≡ codes "script 1\n1 placed 0:0 1:0 2:0 3:0 4:0 5:0 6:0 7:0 8:0 9:0 10:0 11:0 16:0 12:0 13:0 14:0\n2 changed\n3 granted 1 3 17:0 epoch 1 local 0 1 2 4 5 12\n8 refused 113\nscript 2\n4 refused 113\n5 refused 113\n6 refused 113\n7 refused 114 1\n"
unfolding place_outcome drop_outcome lease_outcome done_outcome abandon_outcome revoke_outcome node_outcome kind placed chosen digits
stale_before_not_held = refl

-- the holder is looked at before the target, which keeps no lease from its end
not_held_before_offline :
    printed_by_two ten_domains ((session, place 1) ∷ (session, fail 3) ∷ (session, lease 1 3) ∷ (session, down 17) ∷ (second, done 1 3 1) ∷ (session, done 1 3 1) ∷ (session, abandon 1 3 1) ∷ (session, lease 1 3) ∷ (session, down 18) ∷ (second, revoke 1 3) ∷ (session, abandon 1 3 2) ∷ [])
    ≡ codes "script 1\n1 placed 0:0 1:0 2:0 3:0 4:0 5:0 6:0 7:0 8:0 9:0 10:0 11:0 16:0 12:0 13:0 14:0\n2 changed\n3 granted 1 3 17:0 epoch 1 local 0 1 2 4 5 12\n4 changed\n6 refused 115 17\n7 ended\n8 granted 1 3 18:0 epoch 2 local 0 1 2 4 5 12\n9 changed\n11 refused 113\nscript 2\n5 refused 114 1\n10 ended\n"
unfolding place_outcome drop_outcome lease_outcome done_outcome abandon_outcome revoke_outcome node_outcome kind placed chosen digits
not_held_before_offline = refl
