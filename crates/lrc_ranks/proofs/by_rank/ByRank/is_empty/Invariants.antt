use Rattle.std.proofs.Common.{◌≡◌, ℕ, ◌<◌, false}
use Rattle.lrc_code.specs.declared.numbers.StripeNo.{StripeNo}
use Rattle.lrc_ranks.specs.Sets.{at_rank}
use Rattle.lrc_ranks.proofs.by_rank.ByRank.is_empty.Given as goal

-- the ranks that are passed have no stripe
abbrev pub invariant-loop-rank : goal.invariant-loop-rank
invariant-loop-rank l = (j : ℕ) → j < l.rank → (s : StripeNo) → at_rank l.self-inside.sets j s ≡ false
