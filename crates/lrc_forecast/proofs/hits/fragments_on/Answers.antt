use Rattle.std.proofs.Common.{rules, ◌≡◌, ℕ, ◌<◌, ◌≤◌, Bool, true, false, ◌&&◌, ◌||◌, eqb, ltb, get_or, None, sym, ap, ◌∙◌, arith}
use Rattle.std.proofs.lemmas.Bool.{lt-ltb, le-ltb}
use Rattle.lrc_code.specs.declared.losses.LossMask.{LossMask}
use Rattle.lrc_code.specs.declared.numbers.Fragment.{Fragment}
use Rattle.lrc_code.specs.Codes.{fragment_count, has_fragment}
use Rattle.lrc_code.specs.Losses.{bits_set}
use Rattle.lrc_book.proofs.ImagedLemmas.{item-number}
use Rattle.lrc_book.proofs.MaskLemmas.{tested, tested-set, and-false, set-hit, set-miss}
use Rattle.lrc_forecast.specs.Hits.{is_on_set}
use Rattle.lrc_forecast.proofs.hits.fragments_on.Goals as goal
use Rattle.lrc_forecast.proofs.hits.fragments_on.Goals.{then-fragment-fragments+then-is_on, else-fragment-fragments, else-fragment-fragments-via-then-fragment-fragments+else-is_on, else-fragment-fragments-via-else-fragment-fragments}

pub loop-fragment-preserved : goal.loop-fragment-preserved
loop-fragment-preserved c =
    let code = c.args.code in
    let homes = c.args.homes.now in
    let test = is_on_set c.args.nodes.now in
    let items = c.all-fragment-items.result in
    let i = c.loop-fragment.fragment-index in
    let d = c.fragment-item.result in
    let here : Fragment = get_or items i d in
    let number : here.value ≡ i = item-number items i d c.all-fragment-items.ensures c.loop-fragment-test.true in
    let bits = c.loop-fragment.set.bits in
    elim c.if-fragment-fragments.branch [
      | then-fragment-fragments+then-is_on w ↦
          let own : here.value < fragment_count code = omega (arith, w.if-fragment-fragments.true, c.fragments.ensures.value) in
          let on : test (get_or homes here.value None) ≡ true = search rules in
          let hit : tested code test homes i ≡ true =
          ap (tested code test homes) (sym number) ∙ ap (λ (b : Bool). b && test (get_or homes here.value None)) (lt-ltb here.value (fragment_count code) own) ∙ on in
          let more : (f : ℕ) → bits_set w.with-set.result.bits f ≡ (eqb f i || bits_set bits f) = λ f. w.with-set.ensures f ∙ ap (λ (k : ℕ). eqb f k || bits_set bits f) number in
          λ f. ap (λ (s : LossMask). bits_set s.bits f) w.set-is ∙ set-hit (tested code test homes) i bits c.loop-fragment.invariant hit w.with-set.result.bits more f
      | else-fragment-fragments w ↦
          let miss : tested code test homes i ≡ false = elim w.else-fragment-fragments.branch [
            | else-fragment-fragments-via-then-fragment-fragments+else-is_on v ↦
                let off : test (get_or homes here.value None) ≡ false = search rules in
                ap (tested code test homes) (sym number) ∙ ap (λ (b : Bool). has_fragment code here.value && b) off ∙ and-false (has_fragment code here.value)
            | else-fragment-fragments-via-else-fragment-fragments v ↦
                let past : fragment_count code ≤ here.value = omega (arith, v.if-fragment-fragments.false, c.fragments.ensures.value) in
                ap (tested code test homes) (sym number) ∙ ap (λ (b : Bool). b && test (get_or homes here.value None)) (le-ltb here.value (fragment_count code) past)
          ] in
          λ f. ap (λ (s : LossMask). bits_set s.bits f) w.set-is ∙ set-miss (tested code test homes) i bits c.loop-fragment.invariant miss f
    ]

pub returns : goal.returns
returns c = λ of are.
    let end : c.loop-fragment.fragment-index ≡ 16 = omega (arith, c.loop-fragment-test.false, c.loop-fragment.auto.fragment-index-end) in
    tested-set c.args.code (is_on_set c.args.nodes.now) c.args.homes.now of are c.loop-fragment.set.bits
    (λ f. c.loop-fragment.invariant f ∙ ap (λ (k : ℕ). ltb f k && tested c.args.code (is_on_set c.args.nodes.now) c.args.homes.now f) end)
