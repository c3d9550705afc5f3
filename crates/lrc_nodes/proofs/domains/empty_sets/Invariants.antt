use Rattle.std.proofs.Common.{◌≡◌, false, replicate}
use Rattle.lrc_nodes.proofs.domains.empty_sets.Given as goal

abbrev pub invariant-loop : goal.invariant-loop
invariant-loop l = l.sets.items ≡ replicate l.counter (replicate 512 false)
