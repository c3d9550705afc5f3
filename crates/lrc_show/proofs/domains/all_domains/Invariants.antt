use Rattle.std.proofs.Common.{◌≡◌, map, filter}
use Rattle.std.specs.List.{range_with_len}
use Rattle.lrc_groups.specs.Groups.{has_named}
use Rattle.lrc_show.specs.Summed.{domain_at}
use Rattle.lrc_show.proofs.domains.all_domains.Given as goal

-- the domains of the numbers so far
abbrev pub invariant-loop-number : goal.invariant-loop-number
invariant-loop-number l = l.domains.items ≡ filter (has_named l.topology) (map (domain_at l.kind) (range_with_len 0 l.number))
