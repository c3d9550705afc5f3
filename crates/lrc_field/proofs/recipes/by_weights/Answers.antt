use Rattle.std.proofs.Common.{inl, inr, ℕ, get_or, set, arith, sym, ap, ◌∙◌}
use Rattle.std.proofs.Math.ListN.{length-set}
use Rattle.std.proofs.lemmas.Bool.{cases_eq}
use Rattle.std.proofs.lemmas.List.{get_or-set_same, get_or-set_other}
use Rattle.lrc_field.specs.Weights.{coefficient_by}
use Rattle.lrc_field.proofs.FirstLemmas.{item_number}
use Rattle.lrc_field.proofs.recipes.by_weights.Goals as goal

pub loop-source-preserved : goal.loop-source-preserved
loop-source-preserved c =
    let i = c.loop-source.source-index in
    let all = c.loop-source.coefficients in
    let is = c.loop-source.invariant in
    let number = item_number c.all-source-items.result i c.source-item.result c.all-source-items.ensures c.loop-source-test.true in
    let low = c.loop-source-test.true in
    rw number (record {
      sixteen = length-set all i c.coefficient.result ∙ is.sixteen;
      given = λ k below. elim (cases_eq k i) [
        | inl same ↦
            ap (λ (n : ℕ). get_or (set all i c.coefficient.result) n 0) same
            ∙ (get_or-set_same all i c.coefficient.result 0 (let long = is.sixteen in omega (arith, low, long))
            ∙ (c.coefficient.ensures ∙ ap (coefficient_by c.args.code c.args.fragment.value c.args.weights) (number ∙ sym same)))
        | inr other ↦ get_or-set_other all i k c.coefficient.result 0 other ∙ is.given k (omega (arith, below, other))
      ];
    })

pub returns : goal.returns
returns c = λ g low.
    c.loop-source.invariant.given g (let past = c.loop-source-test.false in let all = c.loop-source.auto.source-index-end in omega (arith, past, all, low))
