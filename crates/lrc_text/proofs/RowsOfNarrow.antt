-- What scripts with stripes of the code Narrow print, and the lines of its losses, computed from the definitions.
use Rattle.std.proofs.Common.{◌≡◌, [], ◌∷◌, map, refl, codes}
use Rattle.std.specs.Fmt.{digits}
use Rattle.lrc_code.specs.declared.codes.Code.TheVariants.{Narrow}
use Rattle.lrc_book.specs.Levels.{level_by, rank_by}
use Rattle.lrc_rules.specs.Urgency.{risk}
use Rattle.lrc_rules.specs.Repairs.{kind}
use Rattle.lrc_rules.specs.Placement.{chosen, placed}
use Rattle.lrc_rules.specs.Leases.{lease_outcome, done_outcome, revoke_outcome}
use Rattle.lrc_rules.specs.Steps.{place_outcome, drop_outcome, node_outcome}
use Rattle.lrc_text.specs.Masks.{losses_line, recovery_text}
use Rattle.lrc_text.specs.Tables.{risk_line, risk_table}
use Rattle.lrc_text.proofs.Rows.{place, place6, remove, lease, revoke, done, fail, ten_domains, six_domains, played, printed}

-- ---- scripts

-- ten fragments are placed
ten_placed : printed ten_domains (place6 1 ∷ []) ≡ codes "script 1\n1 placed 0:0 1:0 2:0 3:0 4:0 5:0 6:0 7:0 8:0 9:0\n"
unfolding place_outcome placed chosen digits
ten_placed = refl

-- over six upgrade domains a stripe of seven in a class finds no room, and one of four does
six_domains_suffice :
    printed six_domains (place 1 ∷ place6 1 ∷ []) ≡ codes "script 1\n1 refused 103 12\n2 placed 0:0 1:0 2:0 3:0 4:0 5:0 9:0 6:0 7:0 8:0\n"
unfolding place_outcome placed chosen digits
six_domains_suffice = refl

-- A fragment that the code lacks needs no lease and has none. The three others of a group rebuild one of it. The epochs of a
-- fragment number go on where the stripe is placed anew with the other code.
narrow_then_wide :
    printed ten_domains (place6 1 ∷ fail 1 ∷ lease 1 12 ∷ lease 1 1 ∷ done 1 12 1 ∷ revoke 1 12 ∷ done 1 1 1 ∷ remove 1 ∷ place 1 ∷ fail 2 ∷ lease 1 1 ∷ [])
    ≡ codes "script 1\n1 placed 0:0 1:0 2:0 3:0 4:0 5:0 6:0 7:0 8:0 9:0\n2 changed\n3 refused 111\n4 granted 1 1 11:0 epoch 1 local 0 2 6\n5 refused 113\n6 refused 116\n7 ended\n8 dropped\n9 placed 0:0 2:0 3:0 4:0 5:0 6:0 7:0 8:0 9:0 10:0 11:0 12:0 17:0 13:0 14:0 15:0\n10 changed\n11 granted 1 1 18:0 epoch 2 local 0 2 3 4 5 12\n"
unfolding place_outcome drop_outcome lease_outcome done_outcome revoke_outcome node_outcome kind placed chosen digits
narrow_then_wide = refl

-- one loss in each local group leaves a margin of two, where the wide code has both in one group and leaves one
narrow_at_risk : risk_table ten_domains (played ten_domains (place6 1 ∷ fail 0 ∷ fail 3 ∷ [])).state ≡ codes "risk\nstripe,level,margin,missing\n1,risk,2,0009\n"
unfolding place_outcome node_outcome placed chosen level_by rank_by risk risk_line digits
narrow_at_risk = refl

-- all of a local group is too much
narrow_lost :
    risk_table ten_domains (played ten_domains (place6 1 ∷ fail 0 ∷ fail 1 ∷ fail 2 ∷ fail 6 ∷ [])).state ≡ codes "risk\nstripe,level,margin,missing\n1,lost,-,0047\n"
unfolding place_outcome node_outcome placed chosen level_by rank_by risk risk_line digits
narrow_lost = refl

-- ---- masks

told_losses :
    map (recovery_text Narrow) (codes "0047" ∷ codes "000f" ∷ codes "0009" ∷ codes "0300" ∷ codes "0400" ∷ [])
    ≡ codes "A 4 B 0 G 0 not recoverable\n" ∷ codes "A 3 B 1 G 0 recoverable margin 0\n" ∷ codes "A 1 B 1 G 0 recoverable margin 2\n"
    ∷ codes "A 0 B 0 G 2 recoverable margin 1\n" ∷ codes "mask refused\n" ∷ []
unfolding losses_line digits
told_losses = refl
