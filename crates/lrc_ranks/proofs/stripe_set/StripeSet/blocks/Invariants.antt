use Rattle.std.proofs.Common.{◌≡◌, ◌≤◌, ◌/◌, false}
use Rattle.lrc_code.specs.declared.numbers.StripeNo.{StripeNo}
use Rattle.lrc_ranks.specs.Sets.{has}
use Rattle.lrc_ranks.proofs.stripe_set.StripeSet.blocks.Given as goal

-- the blocks that are passed have no stripe
abbrev pub invariant-loop-count : goal.invariant-loop-count
invariant-loop-count l = record {
  few : l.count ≤ 64;
  all : (s : StripeNo) → l.count ≤ s.value / 64 → has l.self s ≡ false;
}

abbrev pub decreases-loop-count : goal.decreases-loop-count
decreases-loop-count l = l.count
