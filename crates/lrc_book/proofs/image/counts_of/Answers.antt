use Rattle.std.proofs.Common.{inl, inr, get_or, set, ℕ, arith, sym, ap, ◌∙◌}
use Rattle.std.proofs.Math.ListN.{length-set}
use Rattle.std.proofs.lemmas.Bool.{cases_eq}
use Rattle.std.proofs.lemmas.List.{get_or-set_same, get_or-set_other}
use Rattle.lrc_code.specs.declared.numbers.Fragment.{Fragment}
use Rattle.lrc_code.proofs.NumbersLemmas.{equal_fragments}
use Rattle.lrc_leases.specs.Granted.{granted_in}
use Rattle.lrc_book.proofs.ImagedLemmas.{item-number, by-fragment}
use Rattle.lrc_book.proofs.image.counts_of.Goals as goal

pub loop-fragment-preserved : goal.loop-fragment-preserved
loop-fragment-preserved c =
    let i = c.loop-fragment.fragment-index in
    let counts = c.loop-fragment.counts in
    let is = c.loop-fragment.invariant in
    let fragment : Fragment = get_or c.all-fragment-items.result i c.fragment-item.result in
    let number = item-number c.all-fragment-items.result i c.fragment-item.result c.all-fragment-items.ensures c.loop-fragment-test.true in
    let low = c.loop-fragment-test.true in
    rw (number) (
      length-set counts i c.count.result ∙ is.0,
      λ f below. elim (cases_eq f.value i) [
        | inl same ↦
            ap (λ (n : ℕ). get_or (set counts i c.count.result) n 0) same
            ∙ (get_or-set_same counts i c.count.result 0 (let long = is.0 in omega (arith, low, long))
            ∙ (c.count.ensures ∙ ap (λ (g : Fragment). granted_in c.args.grants.now c.args.stripe g) (equal_fragments fragment f (number ∙ sym same))))
        | inr other ↦ get_or-set_other counts i f.value c.count.result 0 other ∙ is.1 f (omega (arith, below, other))
      ],
    )

pub returns : goal.returns
returns c =
    by-fragment c.loop-fragment.counts (λ f. granted_in c.args.grants.now c.args.stripe f) c.loop-fragment.invariant.0
    (λ f. c.loop-fragment.invariant.1 f (let past = c.loop-fragment-test.false in let all = c.loop-fragment.auto.fragment-index-end in let low = f.in_range in omega (arith, past, all, low)))
