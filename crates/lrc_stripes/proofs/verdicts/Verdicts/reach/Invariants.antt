use Rattle.std.proofs.Common.{Bool, ◌≤◌, ◌-◌, ◌+◌, vec_len, vec_capacity}
use Rattle.lrc_code.specs.declared.numbers.StripeNo.{StripeNo}
use Rattle.lrc_code.specs.declared.numbers.UpgradeNo.{UpgradeNo}
use Rattle.lrc_stripes.specs.UpgradeLosses.{AreVerdicts}
use Rattle.lrc_stripes.proofs.verdicts.Verdicts.reach.Given as goal

-- there is room, and what was kept is
abbrev pub invariant-loop-domain : goal.invariant-loop-domain
invariant-loop-domain l = record {
  room : 256 ≤ vec_capacity l.self.safe;
  same : (lost : UpgradeNo → StripeNo → Bool) (several : StripeNo → Bool) → AreVerdicts lost several l.fn.self → AreVerdicts lost several l.self;
}

abbrev pub decreases-loop-domain : goal.decreases-loop-domain
decreases-loop-domain l = l.domain.value + 1 - vec_len l.self.safe
