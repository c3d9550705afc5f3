use Rattle.std.proofs.Common.{Bool, ◌||◌, ap, ◌∙◌}
use Rattle.lrc_code.specs.declared.numbers.StripeNo.{StripeNo}
use Rattle.lrc_rows.specs.Listed.{rows_in}
use Rattle.lrc_rows.specs.Kept.{row_has_work}
use Rattle.lrc_rows.proofs.rows.Rows.work_set.Goals as goal

pub returns : goal.returns
returns c = c.join_work.ensures ∙ ap {B = StripeNo → Bool} (λ (f : StripeNo → Bool) (s : StripeNo). f s || row_has_work (rows_in c.args.self.now.list s)) c.new-set.ensures
