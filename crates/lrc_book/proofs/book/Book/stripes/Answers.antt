use Rattle.std.proofs.Common.{rules, ◌≡◌, true, false, List, sym, ap, subst, ◌∙◌, arith}
use Rattle.std.specs.Prelude.{is_some}
use Rattle.std.specs.List.{AllByRecursion}
use Rattle.lrc_code.specs.declared.numbers.StripeNo.{StripeNo}
use Rattle.lrc_terms.specs.Stripes.{stripe_at}
use Rattle.lrc_rules.specs.States.{has_stripe}
use Rattle.lrc_book.specs.Books.{state_of}
use Rattle.lrc_book.proofs.StripeLemmas.{own-number, code-there, stripes-none, stripe-push, stripe-pass, stripes-all, stripes-there}
use Rattle.lrc_book.proofs.book.Book.stripes.Goals as goal
use Rattle.lrc_book.proofs.book.Book.stripes.Goals.{then-is_some+in_ok-push, else-is_some}

pub loop-number-init : goal.loop-number-init
loop-number-init c = c.new-rows.ensures.items ∙ sym (stripes-none (state_of c.args.self.now))

pub loop-number-preserved : goal.loop-number-preserved
loop-number-preserved c =
    let st = state_of c.args.self.now in
    let number = c.loop-number.number in
    let stripe = c.unwrap-stripe.result in
    let is : stripe.value ≡ number = search rules in
    let at : stripe_at number ≡ stripe = ap stripe_at (sym is) ∙ own-number stripe in
    let rows = c.loop-number.rows.items in
    elim c.if-is_some.branch [
      | then-is_some+in_ok-push w ↦
          let hit : is_some c.code.result ≡ true = search rules in
          ap (λ v. v.items) w.rows-is ∙ w.in_ok-push.ensures.items
          ∙ stripe-push st number stripe at rows c.loop-number.invariant (code-there st stripe c.code.result true c.code.ensures hit)
      | else-is_some w ↦
          let miss : is_some c.code.result ≡ false = search rules in
          ap (λ v. v.items) w.rows-is ∙ stripe-pass st number stripe at rows c.loop-number.invariant (code-there st stripe c.code.result false c.code.ensures miss)
    ]

pub returns-clause-value : goal.returns-clause-value
returns-clause-value c =
    c.loop-number.invariant ∙ stripes-all (state_of c.args.self.now) c.loop-number.number (omega (arith, c.loop-number-test.false, c.loop-number.auto.number-end))

pub returns-clause-there : goal.returns-clause-there
returns-clause-there c =
    let st = state_of c.args.self.now in
    subst (λ (l : List StripeNo). AllByRecursion (λ s. has_stripe st s ≡ true) l) (sym c.loop-number.invariant) (stripes-there st c.loop-number.number)
