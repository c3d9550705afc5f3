-- What scripts that change nodes print, computed from the definitions.
use Rattle.std.proofs.Common.{◌≡◌, [], ◌∷◌, refl, codes}
use Rattle.std.specs.Fmt.{digits}
use Rattle.lrc_rules.specs.Placement.{chosen, placed}
use Rattle.lrc_rules.specs.Steps.{place_outcome, drop_outcome, node_outcome}
use Rattle.lrc_text.proofs.Rows.{place, remove, fail, down, up, join, ten_domains, printed}

-- a node that failed and joined again is empty, so it is the first to be chosen
each_mode :
    printed ten_domains (place 1 ∷ fail 3 ∷ fail 3 ∷ up 3 ∷ join 3 ∷ down 3 ∷ down 3 ∷ up 3 ∷ place 2 ∷ join 99 ∷ [])
    ≡ codes "script 1\n1 placed 0:0 1:0 2:0 3:0 4:0 5:0 6:0 7:0 8:0 9:0 10:0 11:0 16:0 12:0 13:0 14:0\n2 changed\n3 refused 105\n4 refused 105\n5 changed\n6 changed\n7 refused 105\n8 changed\n9 placed 3:0 15:0 17:0 18:0 19:0 0:1 1:1 2:1 4:1 5:1 6:1 7:1 11:1 8:1 9:1 10:1\n10 refused 104\n"
unfolding place_outcome node_outcome placed chosen digits
each_mode = refl

-- a failed node takes no home
no_home_on_a_failed_node :
    printed ten_domains (place 1 ∷ fail 3 ∷ remove 1 ∷ place 1 ∷ [])
    ≡ codes "script 1\n1 placed 0:0 1:0 2:0 3:0 4:0 5:0 6:0 7:0 8:0 9:0 10:0 11:0 16:0 12:0 13:0 14:0\n2 changed\n3 dropped\n4 placed 0:0 1:0 2:0 4:0 5:0 6:0 7:0 8:0 9:0 10:0 11:0 12:0 13:0 14:0 15:0 16:0\n"
unfolding place_outcome drop_outcome node_outcome placed chosen digits
no_home_on_a_failed_node = refl
