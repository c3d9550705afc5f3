use Rattle.std.proofs.Common.{◌≡◌, cond, nat_lt, get_or, map, take, None, Some}
use Rattle.std.specs.List.{list_any}
use Rattle.lrc_homes.specs.Homes.{seated_homes, sits_on}
use Rattle.lrc_rows.specs.NodeStates.{states_in}
use Rattle.lrc_homes.specs.Domains.{AreDomainsOf}
use Rattle.lrc_rows.proofs.SeatedLemmas.{entered}
use Rattle.lrc_rows.proofs.node_table.NodeTable.enter.Given as goal

-- the stripe is on the nodes of the homes so far, and the domains are those of the homes so far
abbrev pub invariant-loop-number : goal.invariant-loop-number
invariant-loop-number l =
    (states_in l.self ≡ entered (states_in l.fn.self) l.stripe (λ n. list_any (sits_on n) (take l.number (map Some l.seats))))
    × AreDomainsOf (states_in l.fn.self).nodes (λ f. cond (nat_lt f l.number) (get_or (seated_homes l.seats) f None) None) l.domains
