use Rattle.std.proofs.Common.{Bool, cond, List, ap, ◌∙◌}
use Rattle.lrc_code.specs.Numbers.{same_stripe}
use Rattle.lrc_code.specs.declared.numbers.StripeNo.{StripeNo}
use Rattle.lrc_ranks.specs.Sets.{has}
use Rattle.lrc_rows.proofs.rows.one_row.set_planes.Goals as goal

pub returns-clause-work : goal.returns-clause-work
returns-clause-work c =
    c.set_work.ensures.work
    ∙ ap {B = StripeNo → Bool} (λ (xs : List Bool) (s : StripeNo). cond (same_stripe c.args.stripe s) c.args.has_work (has xs s)) (c.put_missing-2.ensures.work ∙ c.put_missing.ensures.work)
