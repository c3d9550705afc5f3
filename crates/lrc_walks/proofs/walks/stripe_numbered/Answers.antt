use Rattle.std.proofs.Common.{◌≡◌, Some, None, if◌then◌else◌, sym, ap, ◌∙◌, rules}
use Rattle.std.proofs.Math.Nat.{mod-eq_of_lt}
use Rattle.lrc_code.specs.declared.numbers.StripeNo.{StripeNo}
use Rattle.lrc_code.proofs.NumbersLemmas.{equal_stripes}
use Rattle.lrc_terms.specs.Stripes.{stripe_at}
use Rattle.lrc_rules.specs.States.{has_stripe}
use Rattle.lrc_book.specs.Books.{state_of}
use Rattle.lrc_walks.specs.WalkRows.{stripe_record}
use Rattle.lrc_walks.proofs.walks.stripe_numbered.Goals as goal

pub returns : goal.returns
returns c = λ low.
    let s = c.in_ok-new.field-0 in
    let number : s.value ≡ c.args.number = search rules in
    let same : s ≡ stripe_at c.args.number = equal_stripes s (stripe_at c.args.number) (number ∙ sym (mod-eq_of_lt low)) in
    let st = state_of c.args.book.now in
    c.row_of.ensures ∙ ap (λ (r : StripeNo). if has_stripe st r then Some (stripe_record c.args.book.now.nodes st r) else None) same
