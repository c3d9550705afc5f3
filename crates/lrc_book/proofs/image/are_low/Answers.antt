use Rattle.std.proofs.Common.{rules, ◌≡◌, ◌≤◌, inl, inr, sym, subst, ◌∙◌, arith}
use Rattle.std.proofs.lemmas.Bool.{cases_eq}
use Rattle.lrc_code.specs.declared.numbers.StripeNo.{StripeNo}
use Rattle.lrc_code.proofs.NumbersLemmas.{equal_stripes}
use Rattle.lrc_leases.specs.Granted.{granted_in}
use Rattle.lrc_images.specs.Causes.{most_grants}
use Rattle.lrc_book.proofs.image.are_low.Goals as goal

pub returns-then-not-are_low_of-clause-some : goal.returns-then-not-are_low_of-clause-some
returns-then-not-are_low_of-clause-some c = λ _.
    let high = c.are_low_of.ensures.some c.if-not-are_low_of.true in (c.unwrap-stripe.result, high.0, high.1)

pub loop-number-preserved : goal.loop-number-preserved
loop-number-preserved c = λ s below f. elim (cases_eq s.value c.loop-number.number) [
  | inl same ↦
      let is : c.unwrap-stripe.result.value ≡ c.loop-number.number = search rules in
      subst (λ (r : StripeNo). granted_in c.args.grants.now r f ≤ most_grants) (equal_stripes c.unwrap-stripe.result s (is ∙ sym same))
      (c.are_low_of.ensures.all c.if-not-are_low_of.false f)
  | inr other ↦ c.loop-number.invariant s (omega (arith, below, other)) f
]
