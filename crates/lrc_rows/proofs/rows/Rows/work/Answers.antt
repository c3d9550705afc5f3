use Rattle.std.proofs.Common.{ℕ, Bool, ap, ◌∙◌}
use Rattle.lrc_code.specs.declared.numbers.StripeNo.{StripeNo}
use Rattle.lrc_ranks.specs.Ranks.{queue_from}
use Rattle.lrc_rows.proofs.rows.Rows.work.Goals as goal

pub returns : goal.returns
returns c = rw (← c.self.view_is) (c.walk.ensures ∙ ap (λ (queue : ℕ → StripeNo → Bool). queue_from queue 0 0) c.self.invariant.works)
