use Rattle.std.proofs.Common.{Bool, ap, ◌∙◌}
use Rattle.lrc_code.specs.declared.numbers.StripeNo.{StripeNo}
use Rattle.lrc_rows.proofs.rows.Rows.contains.Goals as goal

pub returns : goal.returns
returns c = rw (← c.self.view_is) (c.contains.ensures ∙ ap (λ (there : StripeNo → Bool). there c.args.stripe) c.self.invariant.present)
