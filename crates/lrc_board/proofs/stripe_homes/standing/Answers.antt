use Rattle.std.proofs.Common.{◌≡◌, ℕ, Bool, ◌&&◌, nat_lt, get_or, None, sym, ap, ◌∙◌, arith}
use Rattle.lrc_homes.proofs.MaskLemmas.{item-number}
use Rattle.lrc_board.specs.Looks.{stands_in}
use Rattle.lrc_board.proofs.HomesLemmas.{mask-more}
use Rattle.lrc_board.proofs.stripe_homes.standing.Goals as goal

pub loop-fragment-preserved : goal.loop-fragment-preserved
loop-fragment-preserved c =
    let i = c.loop-fragment.fragment-index in
    let online = c.args.online.now in
    let m : ℕ → Bool = λ f. stands_in online (get_or c.args.homes.now f None) in
    let number = item-number c.all-fragment-items.result i c.fragment-item.result c.all-fragment-items.ensures c.loop-fragment-test.true in
    let here : m i ≡ c.stands.result = ap m (sym number) ∙ (sym (ap (stands_in online) c.home.ensures) ∙ sym c.stands.ensures) in
    mask-more m i c.loop-fragment.mask.bits c.with_where-mask.result.bits _ c.stands.result number here c.loop-fragment.invariant c.with_where-mask.ensures

pub returns : goal.returns
returns c = λ f.
    let end : c.loop-fragment.fragment-index ≡ 16 = omega (arith, c.loop-fragment-test.false, c.loop-fragment.auto.fragment-index-end) in
    c.loop-fragment.invariant f ∙ ap (λ (k : ℕ). nat_lt f k && stands_in c.args.online.now (get_or c.args.homes.now f None)) end
