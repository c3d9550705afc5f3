use Rattle.std.proofs.Common.{ap, ◌∙◌}
use Rattle.lrc_ranks.specs.Sets.{has}
use Rattle.lrc_ranks.proofs.StripeSetLemmas.{has-none}
use Rattle.lrc_ranks.proofs.stripe_set.StripeSet.new.Goals as goal

pub returns : goal.returns
returns c = ap has c.new.ensures ∙ has-none 4096
