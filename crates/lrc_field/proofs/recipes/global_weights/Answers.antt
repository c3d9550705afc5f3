use Rattle.std.proofs.Common.{ap, ◌∙◌}
use Rattle.lrc_code.specs.declared.codes.Class.TheVariants.{A, B}
use Rattle.lrc_code.specs.Losses.{bits_set}
use Rattle.lrc_field.specs.Field.{inverse}
use Rattle.lrc_field.specs.Weights.{value_at, scaled, weights_without, raw_weights, weights_for, lost_in, out_of_a, out_of_b}
use Rattle.lrc_field.proofs.recipes.global_weights.Goals as goal

pub returns : goal.returns
unfolding weights_for raw_weights
returns c =
    let code = c.args.code in
    let f = c.args.fragment.value in
    let m = bits_set c.args.others.bits in
    let left = c.of.result in
    let raw = c.weights-weights.result in
    c.times.ensures ∙ ap (λ i. scaled i raw) c.inverse.ensures.value ∙ ap (λ v. scaled (inverse v) raw) c.at.ensures
    ∙ ap (λ w. scaled (inverse (value_at code w f)) w) (
    c.weights-weights.ensures ∙ ap (λ x. weights_without code x left.in_b.value left.third.value) c.of.ensures.in_a
    ∙ ap (λ y. weights_without code (out_of_a code (lost_in code A m)) y left.third.value) c.of.ensures.in_b
    ∙ ap (weights_without code (out_of_a code (lost_in code A m)) (out_of_b code (lost_in code B m))) c.of.ensures.third
    )
