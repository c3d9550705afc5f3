use Rattle.std.proofs.Common.{◌∙◌}
use Rattle.lrc_ranks.specs.Sets.{has}
use Rattle.lrc_ranks.proofs.StripeSetLemmas.{put-in, put-out}
use Rattle.lrc_ranks.proofs.stripe_set.StripeSet.set.Goals as goal

pub returns-then-is_in : goal.returns-then-is_in
returns-then-is_in c = rw c.if-is_in.true (c.insert.ensures ∙ put-in c.args.stripe (has c.args.self.now))

pub returns-else-is_in : goal.returns-else-is_in
returns-else-is_in c = rw c.if-is_in.false (c.remove.ensures ∙ put-out c.args.stripe (has c.args.self.now))
