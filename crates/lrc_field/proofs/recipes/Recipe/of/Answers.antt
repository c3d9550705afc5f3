use Rattle.std.proofs.Common.{◌≡◌, ◌<◌, true, false, arith, refl, sym, ◌∙◌}
use Rattle.lrc_code.specs.Codes.{fragment_count}
use Rattle.lrc_code.specs.Losses.{bits_set}
use Rattle.lrc_field.proofs.RecipeLemmas.{local_list, near_list, no_recipe, others_of}
use Rattle.lrc_field.proofs.recipes.Recipe.of.Goals as goal

pub returns-then-is_local : goal.returns-then-is_local
returns-then-is_local c =
    let within : c.args.fragment.value < fragment_count c.args.code = omega (arith, c.fragments.ensures.value) in
    let made = local_list c.args.code (bits_set c.args.missing.bits) c.args.fragment c.by_weights.result.coefficients c.local_weights.result within (sym c.is_local.ensures ∙ c.if-is_local.true)
    c.by_weights.result.sixteen c.local_weights.ensures c.by_weights.ensures in
    record { recipe = made.recipe; some = (λ _. (within, made.determines), λ _. refl); reads = made.reads; local = made.local }

pub returns-then-not-recoverable_in-clause-some : goal.returns-then-not-recoverable_in-clause-some
returns-then-not-recoverable_in-clause-some c =
    let m = bits_set c.args.missing.bits in
    let within : c.args.fragment.value < fragment_count c.args.code = omega (arith, c.fragments.ensures.value) in (
      λ h. absurd (let e : false ≡ true = h in cc),
      λ both. absurd (
          let good = no_recipe c.args.code m (others_of m c.args.fragment.value) c.args.fragment (λ _. 0) within (λ g. refl) (sym c.is_local.ensures ∙ c.if-is_local.false) (bits_set c.with.result.bits) c.with.ensures both.1 in
          let hit = c.recoverable_in.ensures.recoverable.1 good in
          let miss = c.if-not-recoverable_in.true in
          let e : true ≡ false = sym hit ∙ miss in
          cc
          ),
    )

pub returns : goal.returns
returns c =
    let within : c.args.fragment.value < fragment_count c.args.code = omega (arith, c.fragments.ensures.value) in
    let made = near_list c.args.code (bits_set c.args.missing.bits) (bits_set c.without.result.bits) (bits_set c.with.result.bits) c.args.fragment c.by_weights-2.result.coefficients c.global_weights-weights.result
    within c.without.ensures (sym c.is_local.ensures ∙ c.if-is_local.false) c.with.ensures (c.recoverable_in.ensures.recoverable.0 c.if-not-recoverable_in.false)
    c.by_weights-2.result.sixteen c.global_weights-weights.ensures c.by_weights-2.ensures in
    record { recipe = made.recipe; some = (λ _. (within, made.determines), λ _. refl); reads = made.reads; local = made.local }
