use Rattle.std.proofs.Common.{◌≡◌, Bool, Some}
use Rattle.lrc_code.specs.declared.numbers.StripeNo.{StripeNo}
use Rattle.lrc_code.specs.declared.numbers.UpgradeNo.{UpgradeNo}
use Rattle.lrc_rows.specs.NodeStates.{states_in}
use Rattle.lrc_stripes.specs.UpgradeLosses.{row_lost, AreVerdicts}
use Rattle.lrc_stripes.proofs.upgrades.keep_row.Given as goal

-- what is kept stays right
abbrev pub invariant-loop-number : goal.invariant-loop-number
invariant-loop-number l =
    (lost : UpgradeNo → StripeNo → Bool) (several : StripeNo → Bool) → AreVerdicts lost several l.fn.verdicts
    → ((u : UpgradeNo) → lost u l.stripe ≡ row_lost (states_in l.node_table) u (Some l.row)) → AreVerdicts lost several l.verdicts
