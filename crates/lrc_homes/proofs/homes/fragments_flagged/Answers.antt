use Rattle.std.proofs.Common.{◌≡◌, ℕ, Bool, false, get_or, ap, ◌∙◌}
use Rattle.lrc_homes.proofs.MaskLemmas.{item-number, mask-next}
use Rattle.lrc_homes.proofs.homes.fragments_flagged.Goals as goal

pub loop-fragment-preserved : goal.loop-fragment-preserved
loop-fragment-preserved c =
    let i = c.loop-fragment.fragment-index in
    let m : ℕ → Bool = λ f. get_or c.args.flags.now (get_or c.args.numbers.now f 0) false in
    let number = item-number c.all-fragment-items.result i c.fragment-item.result c.all-fragment-items.ensures c.loop-fragment-test.true in
    let here : get_or c.args.flags.now c.from.result false ≡ m i = ap (λ (n : ℕ). get_or c.args.flags.now n false) c.from.ensures ∙ ap m number in
    mask-next m i c.loop-fragment.mask.bits c.with_where-mask.result.bits _ _ number here c.loop-fragment.invariant c.with_where-mask.ensures
