use Rattle.std.proofs.Common.{get_or, inl, inr, sym, ap, ◌∙◌, arith}
use Rattle.std.proofs.lemmas.Bool.{cases_eq}
use Rattle.lrc_code.specs.declared.numbers.Fragment.{Fragment}
use Rattle.lrc_code.proofs.NumbersLemmas.{equal_fragments}
use Rattle.lrc_leases.specs.Granted.{granted_in}
use Rattle.lrc_book.proofs.ImagedLemmas.{item-number}
use Rattle.lrc_book.proofs.image.are_low_of.Goals as goal

pub returns-then-count-gt-MOST_GRANTS-clause-some : goal.returns-then-count-gt-MOST_GRANTS-clause-some
returns-then-count-gt-MOST_GRANTS-clause-some c = λ _.
    (get_or c.all-fragment-items.result c.loop-fragment.fragment-index c.fragment-item.result, omega (arith, c.if-count-gt-MOST_GRANTS.true, c.count.ensures))

pub loop-fragment-preserved : goal.loop-fragment-preserved
loop-fragment-preserved c = λ f below.
    let i = c.loop-fragment.fragment-index in
    let fragment : Fragment = get_or c.all-fragment-items.result i c.fragment-item.result in
    elim (cases_eq f.value i) [
      | inl same ↦
          let number = item-number c.all-fragment-items.result i c.fragment-item.result c.all-fragment-items.ensures c.loop-fragment-test.true in
          let count = c.count.ensures ∙ ap (λ (g : Fragment). granted_in c.args.grants.now c.args.stripe g) (equal_fragments fragment f (number ∙ sym same)) in
          omega (arith, count, c.if-count-gt-MOST_GRANTS.false)
      | inr other ↦ c.loop-fragment.invariant f (omega (arith, below, other))
    ]
