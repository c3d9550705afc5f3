use Rattle.std.proofs.Common.{◌≡◌, length, false}
use Rattle.std.specs.List.{All}
use Rattle.lrc_ranks.specs.Sets.{has}
use Rattle.lrc_rows.proofs.node_table.empty_sets.Given as goal

-- there are as many empty sets as rounds so far
abbrev pub invariant-loop : goal.invariant-loop
invariant-loop l = record { long : length l.sets.items ≡ l.counter; empty : All (λ set. has set ≡ (λ s. false)) l.sets.items }
