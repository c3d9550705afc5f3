-- What scripts of placing and dropping print, computed from the definitions.
use Rattle.std.proofs.Common.{◌≡◌, [], ◌∷◌, map, refl, codes}
use Rattle.std.specs.Fmt.{digits}
use Rattle.lrc_rules.specs.States.{load}
use Rattle.lrc_rules.specs.Placement.{chosen, placed}
use Rattle.lrc_rules.specs.Steps.{place_outcome, drop_outcome}
use Rattle.lrc_text.proofs.Rows.{node_number, place, remove, ten_domains, single_slots, six_domains, sixteen_nodes, twenty, played, printed}

-- fragment 12 passes over nodes 12 to 15, whose upgrade domains its class uses
one_placed : printed ten_domains (place 1 ∷ []) ≡ codes "script 1\n1 placed 0:0 1:0 2:0 3:0 4:0 5:0 6:0 7:0 8:0 9:0 10:0 11:0 16:0 12:0 13:0 14:0\n"
unfolding place_outcome placed chosen digits
one_placed = refl

-- load comes before number
two_in_turn :
    printed ten_domains (place 1 ∷ place 2 ∷ [])
    ≡ codes "script 1\n1 placed 0:0 1:0 2:0 3:0 4:0 5:0 6:0 7:0 8:0 9:0 10:0 11:0 16:0 12:0 13:0 14:0\n2 placed 15:0 17:0 18:0 19:0 0:1 1:1 2:1 3:1 4:1 5:1 6:1 7:1 12:1 8:1 9:1 10:1\n"
unfolding place_outcome placed chosen digits
two_in_turn = refl

-- four nodes are left for the second stripe, and nothing of it stays
no_slot_left : printed single_slots (place 1 ∷ place 2 ∷ []) ≡ codes "script 1\n1 placed 0:0 1:0 2:0 3:0 4:0 5:0 6:0 7:0 8:0 9:0 10:0 11:0 16:0 12:0 13:0 14:0\n2 refused 103 4\n"
unfolding place_outcome placed chosen digits
no_slot_left = refl

no_slot_left_loads : map (λ n. load (played single_slots (place 1 ∷ place 2 ∷ [])).state (node_number n)) (15 ∷ 17 ∷ 18 ∷ 19 ∷ []) ≡ 0 ∷ 0 ∷ 0 ∷ 0 ∷ []
unfolding place_outcome placed chosen
no_slot_left_loads = refl

-- the seventh member of a class finds no seventh upgrade domain
six_domains_are_few : printed six_domains (place 1 ∷ []) ≡ codes "script 1\n1 refused 103 12\n"
unfolding place_outcome placed chosen digits
six_domains_are_few = refl

six_domains_are_few_loads : map (λ n. load (played six_domains (place 1 ∷ [])).state (node_number n)) twenty ≡ map (λ n. 0) twenty
unfolding place_outcome placed chosen
six_domains_are_few_loads = refl

-- the choice rule is greedy
greedy_refuses : printed sixteen_nodes (place 1 ∷ []) ≡ codes "script 1\n1 refused 103 12\n"
unfolding place_outcome placed chosen digits
greedy_refuses = refl

dropped_seats_are_free :
    printed ten_domains (place 1 ∷ remove 1 ∷ place 2 ∷ [])
    ≡ codes "script 1\n1 placed 0:0 1:0 2:0 3:0 4:0 5:0 6:0 7:0 8:0 9:0 10:0 11:0 16:0 12:0 13:0 14:0\n2 dropped\n3 placed 0:0 1:0 2:0 3:0 4:0 5:0 6:0 7:0 8:0 9:0 10:0 11:0 16:0 12:0 13:0 14:0\n"
unfolding place_outcome drop_outcome placed chosen digits
dropped_seats_are_free = refl

least_slots_again :
    printed ten_domains (place 1 ∷ place 2 ∷ remove 1 ∷ place 3 ∷ [])
    ≡ codes "script 1\n1 placed 0:0 1:0 2:0 3:0 4:0 5:0 6:0 7:0 8:0 9:0 10:0 11:0 16:0 12:0 13:0 14:0\n2 placed 15:0 17:0 18:0 19:0 0:1 1:1 2:1 3:1 4:1 5:1 6:1 7:1 12:1 8:1 9:1 10:1\n3 dropped\n4 placed 11:0 13:0 14:0 16:0 0:0 2:0 1:0 3:0 4:0 5:0 6:0 7:0 8:0 9:0 10:0 12:0\n"
unfolding place_outcome drop_outcome placed chosen digits
least_slots_again = refl

refusals : printed ten_domains (place 1 ∷ place 1 ∷ remove 2 ∷ []) ≡ codes "script 1\n1 placed 0:0 1:0 2:0 3:0 4:0 5:0 6:0 7:0 8:0 9:0 10:0 11:0 16:0 12:0 13:0 14:0\n2 refused 102\n3 refused 101\n"
unfolding place_outcome drop_outcome placed chosen digits
refusals = refl
