use Rattle.std.proofs.Common.{Bool, ◌||◌, ap, ◌∙◌}
use Rattle.lrc_code.specs.declared.numbers.StripeNo.{StripeNo}
use Rattle.lrc_ranks.specs.Sets.{has}
use Rattle.lrc_ranks.proofs.stripe_set.StripeSet.again.Goals as goal

pub returns : goal.returns
returns c = c.insert_all.ensures ∙ ap {B = StripeNo → Bool} (λ (f : StripeNo → Bool) (s : StripeNo). f s || has c.args.self.now s) c.new-set.ensures
