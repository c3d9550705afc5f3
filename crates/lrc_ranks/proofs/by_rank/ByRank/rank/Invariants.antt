use Rattle.std.proofs.Common.{◌≡◌, ℕ, ◌<◌, false}
use Rattle.lrc_ranks.specs.Sets.{at_rank}
use Rattle.lrc_ranks.proofs.by_rank.ByRank.rank.Given as goal

-- the stripe is at none of the ranks that are passed
abbrev pub invariant-loop-rank : goal.invariant-loop-rank
invariant-loop-rank l = (j : ℕ) → j < l.rank → at_rank l.self-inside.sets j l.stripe ≡ false
