use Rattle.std.proofs.Common.{inl, inr, ℕ, get_or, set, None, arith, sym, ap, ◌∙◌}
use Rattle.std.proofs.Math.ListN.{length-set}
use Rattle.std.proofs.lemmas.Bool.{cases_eq}
use Rattle.std.proofs.lemmas.List.{ext_get_or, get_or-set_same, get_or-set_other}
use Rattle.lrc_homes.proofs.MaskLemmas.{item-number}
use Rattle.lrc_homes.proofs.homes.Homes.all.Goals as goal

pub loop-fragment-preserved : goal.loop-fragment-preserved
loop-fragment-preserved c =
    let i = c.loop-fragment.fragment-index in
    let homes = c.loop-fragment.homes in
    let is = c.loop-fragment.invariant in
    let number = item-number c.all-fragment-items.result i c.fragment-item.result c.all-fragment-items.ensures c.loop-fragment-test.true in
    let low = c.loop-fragment-test.true in
    rw (number) (
      length-set homes i c.home.result ∙ is.0,
      λ k below. elim (cases_eq k i) [
        | inl same ↦
            ap (λ (n : ℕ). get_or (set homes i c.home.result) n None) same
            ∙ (get_or-set_same homes i c.home.result None (let long = is.0 in omega (arith, low, long))
            ∙ (c.home.ensures ∙ ap (λ (n : ℕ). get_or c.args.self.now n None) (number ∙ sym same)))
        | inr other ↦ get_or-set_other homes i k c.home.result None other ∙ is.1 k (omega (arith, below, other))
      ],
    )

pub returns : goal.returns
returns c =
    let is = c.loop-fragment.invariant in
    let long = c.requires in
    ext_get_or None c.loop-fragment.homes c.args.self.now (is.0 ∙ sym long)
    (λ k below. is.1 k (let some = is.0 in let past = c.loop-fragment-test.false in let all = c.loop-fragment.auto.fragment-index-end in omega (arith, some, past, all, below)))
