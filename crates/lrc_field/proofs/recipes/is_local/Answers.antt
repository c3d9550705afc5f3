use Rattle.std.proofs.Common.{◌≡◌, Bool, true, false, if◌then◌else◌, List, Some, None, is_some, refl, sym, ap, ◌∙◌}
use Rattle.lrc_code.specs.declared.codes.Code.TheVariants.{Wide, Narrow}
use Rattle.lrc_code.specs.declared.numbers.Fragment.{Fragment}
use Rattle.lrc_code.specs.Codes.{others}
use Rattle.lrc_code.specs.Losses.{bits_set, is_local}
use Rattle.lrc_field.proofs.recipes.is_local.Goals as goal

some_if : (b : Bool) (x : List Fragment) → is_some (if b then Some x else None) ≡ b
some_if true x = refl
some_if false x = refl

pub returns-in-Wide : goal.returns-in-Wide
returns-in-Wide c =
    let m = bits_set c.args.missing.bits in
    c.is_some.ensures ∙ ap is_some c.local_sources.ensures ∙ some_if (is_local Wide m c.args.fragment) (others Wide c.args.fragment) ∙ ap (λ code. is_local code m c.args.fragment) (sym c.in-Wide.is)

pub returns-in-Narrow : goal.returns-in-Narrow
returns-in-Narrow c =
    let m = bits_set c.args.missing.bits in
    c.is_some-in-Narrow.ensures ∙ ap is_some c.narrow_sources.ensures ∙ some_if (is_local Narrow m c.args.fragment) (others Narrow c.args.fragment) ∙ ap (λ code. is_local code m c.args.fragment) (sym c.in-Narrow.is)
