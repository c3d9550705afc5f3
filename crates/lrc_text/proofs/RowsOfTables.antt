-- The tables after the replies of scripts, computed from the definitions.
use Rattle.std.proofs.Common.{◌≡◌, ℕ, List, [], ◌∷◌, ◌++◌, map, refl, codes}
use Rattle.std.specs.Fmt.{digits}
use Rattle.lrc_topology.specs.declared.NodeInfo.{NodeInfo}
use Rattle.lrc_book.specs.Levels.{level_by, rank_by}
use Rattle.lrc_rules.specs.declared.command.Command.{Command}
use Rattle.lrc_rules.specs.Urgency.{risk, next_of}
use Rattle.lrc_rules.specs.Repairs.{kind}
use Rattle.lrc_rules.specs.Placement.{chosen, placed}
use Rattle.lrc_rules.specs.Leases.{lease_outcome, next_outcome, done_outcome, tick_outcome}
use Rattle.lrc_rules.specs.Steps.{place_outcome, drop_outcome, node_outcome, would_lose, upgrade_outcome, upgraded_outcome}
use Rattle.lrc_text.specs.Tables.{mask_field, risk_line, risk_table, load_line, load_row, load_table}
use Rattle.lrc_text.proofs.WholeTexts.{output_text}
use Rattle.lrc_text.proofs.Rows.{node, place, remove, lease, next, done, fail, down, up, join, drain, undrain, retire, upgrade, upgraded, tick, ten_domains, played}

-- the risk table after a script
abbrev risk_after : List NodeInfo → List Command → List ℕ
risk_after nodes script = risk_table nodes (played nodes script).state

-- the row of a node of ten domains, which this is in, after a script
abbrev load_after : ℕ → ℕ → List Command → List ℕ
load_after number domain script = load_row (played ten_domains script).state (node number domain 4)

-- what is printed of one script
abbrev printed_whole : List NodeInfo → List Command → List ℕ
printed_whole nodes script = output_text nodes 1 (played nodes script).past

-- ---- whole outputs

one_placed_whole :
    printed_whole ten_domains (place 1 ∷ [])
    ≡ codes "script 1\n1 placed 0:0 1:0 2:0 3:0 4:0 5:0 6:0 7:0 8:0 9:0 10:0 11:0 16:0 12:0 13:0 14:0\nrisk\nstripe,level,margin,missing\nload\nnode,mode,online,load,slots\n0,active,yes,1,4\n1,active,yes,1,4\n2,active,yes,1,4\n3,active,yes,1,4\n4,active,yes,1,4\n5,active,yes,1,4\n6,active,yes,1,4\n7,active,yes,1,4\n8,active,yes,1,4\n9,active,yes,1,4\n10,active,yes,1,4\n11,active,yes,1,4\n12,active,yes,1,4\n13,active,yes,1,4\n14,active,yes,1,4\n15,active,yes,0,4\n16,active,yes,1,4\n17,active,yes,0,4\n18,active,yes,0,4\n19,active,yes,0,4\n"
unfolding place_outcome placed chosen level_by rank_by risk risk_line load_line digits
one_placed_whole = refl

-- without a script both tables stand
no_script : output_text ten_domains 0 [] ≡ codes "risk\nstripe,level,margin,missing\nload\nnode,mode,online,load,slots\n0,active,yes,0,4\n1,active,yes,0,4\n2,active,yes,0,4\n3,active,yes,0,4\n4,active,yes,0,4\n5,active,yes,0,4\n6,active,yes,0,4\n7,active,yes,0,4\n8,active,yes,0,4\n9,active,yes,0,4\n10,active,yes,0,4\n11,active,yes,0,4\n12,active,yes,0,4\n13,active,yes,0,4\n14,active,yes,0,4\n15,active,yes,0,4\n16,active,yes,0,4\n17,active,yes,0,4\n18,active,yes,0,4\n19,active,yes,0,4\n"
unfolding risk risk_line load_line digits
no_script = refl

-- a script without commands has its own line alone
no_command : printed_whole ten_domains [] ≡ codes "script 1\nrisk\nstripe,level,margin,missing\nload\nnode,mode,online,load,slots\n0,active,yes,0,4\n1,active,yes,0,4\n2,active,yes,0,4\n3,active,yes,0,4\n4,active,yes,0,4\n5,active,yes,0,4\n6,active,yes,0,4\n7,active,yes,0,4\n8,active,yes,0,4\n9,active,yes,0,4\n10,active,yes,0,4\n11,active,yes,0,4\n12,active,yes,0,4\n13,active,yes,0,4\n14,active,yes,0,4\n15,active,yes,0,4\n16,active,yes,0,4\n17,active,yes,0,4\n18,active,yes,0,4\n19,active,yes,0,4\n"
unfolding risk risk_line load_line digits
no_command = refl

-- the load table stands in the order of the file, and not of the numbers
in_the_order_of_the_file :
    load_table (node 7 0 1 ∷ node 65535 1 256 ∷ node 0 2 3 ∷ []) (played (node 7 0 1 ∷ node 65535 1 256 ∷ node 0 2 3 ∷ []) (drain 0 ∷ [])).state
    ≡ codes "load\nnode,mode,online,load,slots\n7,active,yes,0,1\n65535,active,yes,0,256\n0,draining,yes,0,3\n"
unfolding node_outcome load_line digits
in_the_order_of_the_file = refl

-- ---- stripes at risk

leased_is_at_risk : risk_after ten_domains (place 1 ∷ fail 3 ∷ lease 1 3 ∷ []) ≡ codes "risk\nstripe,level,margin,missing\n1,risk,2,0008\n"
unfolding place_outcome lease_outcome node_outcome kind placed chosen level_by rank_by risk risk_line digits
leased_is_at_risk = refl

done_is_whole : risk_after ten_domains (place 1 ∷ fail 3 ∷ lease 1 3 ∷ lease 1 3 ∷ done 1 3 2 ∷ done 1 3 1 ∷ []) ≡ codes "risk\nstripe,level,margin,missing\n"
unfolding place_outcome lease_outcome done_outcome node_outcome kind placed chosen level_by rank_by risk risk_line digits
done_is_whole = refl

failed_and_joined : risk_after ten_domains (place 1 ∷ fail 3 ∷ fail 3 ∷ up 3 ∷ join 3 ∷ down 3 ∷ down 3 ∷ up 3 ∷ place 2 ∷ join 99 ∷ []) ≡ codes "risk\nstripe,level,margin,missing\n1,risk,2,0008\n"
unfolding place_outcome node_outcome placed chosen level_by rank_by risk risk_line digits
failed_and_joined = refl

-- the nodes of an upgrading domain are offline
upgrading_is_at_risk : risk_after ten_domains (place 1 ∷ upgrade 0 ∷ []) ≡ codes "risk\nstripe,level,margin,missing\n1,risk,2,0401\n"
unfolding place_outcome upgrade_outcome would_lose placed chosen level_by rank_by risk risk_line digits
upgrading_is_at_risk = refl

upgraded_and_failed :
    risk_after ten_domains (place 1 ∷ upgrade 0 ∷ upgrade 1 ∷ upgraded 1 ∷ upgraded 0 ∷ fail 1 ∷ fail 2 ∷ fail 3 ∷ upgrade 0 ∷ []) ≡ codes "risk\nstripe,level,margin,missing\n1,risk,0,000e\n"
unfolding place_outcome node_outcome upgrade_outcome upgraded_outcome would_lose placed chosen level_by rank_by risk risk_line digits
upgraded_and_failed = refl

-- the rank comes before the number
by_rank_and_number :
    risk_after ten_domains (place 1 ∷ place 2 ∷ fail 17 ∷ fail 18 ∷ fail 19 ∷ fail 11 ∷ next ∷ next ∷ next ∷ next ∷ next ∷ [])
    ≡ codes "risk\nstripe,level,margin,missing\n2,risk,0,000e\n1,risk,2,0800\n"
unfolding place_outcome next_outcome lease_outcome node_outcome next_of kind placed chosen level_by rank_by risk risk_line digits
by_rank_and_number = refl

lost_has_no_margin :
    risk_after ten_domains (place 1 ∷ place 1 ∷ remove 2 ∷ lease 1 3 ∷ fail 99 ∷ up 0 ∷ upgrade 10 ∷ undrain 0 ∷ fail 0 ∷ fail 1 ∷ fail 2 ∷ fail 4 ∷ lease 1 0 ∷ drain 5 ∷ lease 1 5 ∷ join 0 ∷ join 0 ∷ [])
    ≡ codes "risk\nstripe,level,margin,missing\n1,lost,-,0017\n"
unfolding place_outcome drop_outcome lease_outcome node_outcome upgrade_outcome would_lose kind placed chosen level_by rank_by risk risk_line digits
lost_has_no_margin = refl

unavailable_has_no_margin : risk_after ten_domains (place 1 ∷ down 0 ∷ down 1 ∷ down 2 ∷ down 3 ∷ lease 1 0 ∷ []) ≡ codes "risk\nstripe,level,margin,missing\n1,unavailable,-,000f\n"
unfolding place_outcome lease_outcome node_outcome kind placed chosen level_by rank_by risk risk_line digits
unavailable_has_no_margin = refl

-- the digits of a mask, in lower case and with the zeros before them
digits_of_masks : map mask_field (0 ∷ 1 ∷ 16 ∷ 2748 ∷ 43981 ∷ 65535 ∷ []) ≡ codes "0000" ∷ codes "0001" ∷ codes "0010" ∷ codes "0abc" ∷ codes "abcd" ∷ codes "ffff" ∷ []
digits_of_masks = refl

-- ---- loads

retired_is_gone : load_after 0 0 (place 1 ∷ drain 0 ∷ retire 0 ∷ lease 1 0 ∷ down 17 ∷ done 1 0 1 ∷ up 17 ∷ done 1 0 1 ∷ retire 0 ∷ []) ≡ codes "0,gone,no,0,4\n"
unfolding place_outcome lease_outcome done_outcome node_outcome kind placed chosen load_line digits
retired_is_gone = refl

undrained_is_active : load_after 0 0 (place 1 ∷ drain 0 ∷ next ∷ undrain 0 ∷ done 1 0 1 ∷ retire 0 ∷ []) ≡ codes "0,active,yes,0,4\n"
unfolding place_outcome next_outcome lease_outcome done_outcome node_outcome next_of kind placed chosen load_line digits
undrained_is_active = refl

-- a target counts
drained_and_leased : load_after 17 7 (place 1 ∷ drain 0 ∷ next ∷ []) ++ load_after 0 0 (place 1 ∷ drain 0 ∷ next ∷ []) ≡ codes "17,active,yes,1,4\n0,draining,yes,1,4\n"
unfolding place_outcome next_outcome lease_outcome node_outcome next_of kind placed chosen load_line digits
drained_and_leased = refl

-- and that of a lease that ended counts no more
ended_targets :
    load_after 17 7 (place 1 ∷ fail 3 ∷ fail 4 ∷ next ∷ tick ∷ next ∷ tick ∷ tick ∷ tick ∷ []) ++ load_after 18 8 (place 1 ∷ fail 3 ∷ fail 4 ∷ next ∷ tick ∷ next ∷ tick ∷ tick ∷ tick ∷ [])
    ≡ codes "17,active,yes,0,4\n18,active,yes,0,4\n"
unfolding place_outcome next_outcome lease_outcome node_outcome tick_outcome next_of kind placed chosen rank_by load_line digits
ended_targets = refl

-- a node is offline while its domain is upgrading, and where it is down
offline_nodes :
    load_after 10 0 (place 1 ∷ upgrade 0 ∷ drain 1 ∷ down 1 ∷ []) ++ load_after 1 1 (place 1 ∷ upgrade 0 ∷ drain 1 ∷ down 1 ∷ []) ≡ codes "10,active,no,1,4\n1,draining,no,1,4\n"
unfolding place_outcome node_outcome upgrade_outcome would_lose placed chosen load_line digits
offline_nodes = refl
