use Rattle.std.proofs.Common.{refl, ap, sym, ◌∙◌}
use Rattle.std.proofs.Common.{Bool}
use Rattle.lrc_code.specs.declared.numbers.StripeNo.{StripeNo}
use Rattle.lrc_code.specs.Numbers.{same_stripe}
use Rattle.lrc_ranks.specs.Sets.{has}
use Rattle.lrc_stripes.proofs.VerdictLemmas.{or-parts, marked}
use Rattle.lrc_stripes.proofs.verdicts.Verdicts.mark.Goals as goal

pub returns : goal.returns
returns c = λ lost now several after are same.
    marked c.args.self.now _ (same_stripe c.args.stripe) refl refl (λ s kept. or-parts (same_stripe c.args.stripe s) (has c.args.self.now.changed s) (sym (ap (λ (f : StripeNo → Bool). f s) c.insert.ensures) ∙ kept))
    lost now several after are same
