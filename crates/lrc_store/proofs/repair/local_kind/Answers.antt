use Rattle.std.proofs.Common.{◌≡◌, ℕ, Bool, true, false, if◌then◌else◌, List, Option, Some, None, refl, sym, ap, ◌∙◌}
use Rattle.std.proofs.lemmas.Option.{same_Some}
use Rattle.lrc_code.specs.declared.codes.Code.{Code}
use Rattle.lrc_code.specs.declared.codes.Code.TheVariants.{Wide, Narrow}
use Rattle.lrc_code.specs.declared.numbers.Fragment.{Fragment}
use Rattle.lrc_code.specs.Codes.{others}
use Rattle.lrc_code.specs.Losses.{bits_set, is_local}
use Rattle.lrc_rules.specs.declared.kind.Kind.{Kind}
use Rattle.lrc_rules.specs.Repairs.{local_kind}
use Rattle.lrc_store.proofs.repair.local_kind.Goals as goal

-- the sources that are found are those that the kind tells
some-told : (told : List Fragment → Kind) (near : Bool) (os found : List Fragment) → Some found ≡ (if near then Some os else None)
    → Some (told found) ≡ (if near then Some (told os) else None)
some-told told true os found is = ap (λ (fs : List Fragment). Some (told fs)) (same_Some found os is)
some-told told false os found is = absurd (let never : Some found ≡ None = is in cc)

none-told : (told : List Fragment → Kind) (near : Bool) (os : List Fragment) → None ≡ (if near then Some os else None)
    → None ≡ (if near then Some (told os) else None)
none-told told true os is = absurd (let never : None ≡ Some os = is in cc)
none-told told false os is = refl

-- what is told in a code
abbrev by_code : ℕ → Fragment → Code → Option Kind
by_code missing f code = if is_local code (bits_set missing) f then Some (local_kind code (others code f)) else None

pub returns-in_err-local_sources-in-Wide : goal.returns-in_err-local_sources-in-Wide
returns-in_err-local_sources-in-Wide c =
    let bits = c.args.missing.bits in
    let f = c.args.fragment in
    c.from_residual.ensures
    ∙ none-told (local_kind Wide) (is_local Wide (bits_set bits) f) (others Wide f) c.in_err-local_sources-in-Wide.ensures
    ∙ sym (ap (by_code bits f) c.in-Wide.is)

pub returns-in_ok-local_sources-in-Wide : goal.returns-in_ok-local_sources-in-Wide
returns-in_ok-local_sources-in-Wide c =
    let bits = c.args.missing.bits in
    let f = c.args.fragment in
    some-told (local_kind Wide) (is_local Wide (bits_set bits) f) (others Wide f) c.in_ok-local_sources-in-Wide.field-0 c.in_ok-local_sources-in-Wide.ensures
    ∙ sym (ap (by_code bits f) c.in-Wide.is)

pub returns-in_err-narrow_sources-in-Narrow : goal.returns-in_err-narrow_sources-in-Narrow
returns-in_err-narrow_sources-in-Narrow c =
    let bits = c.args.missing.bits in
    let f = c.args.fragment in
    c.from_residual-in_err-narrow_sources-in-Narrow.ensures
    ∙ none-told (local_kind Narrow) (is_local Narrow (bits_set bits) f) (others Narrow f) c.in_err-narrow_sources-in-Narrow.ensures
    ∙ sym (ap (by_code bits f) c.in-Narrow.is)

pub returns-in_ok-narrow_sources-in-Narrow : goal.returns-in_ok-narrow_sources-in-Narrow
returns-in_ok-narrow_sources-in-Narrow c =
    let bits = c.args.missing.bits in
    let f = c.args.fragment in
    some-told (local_kind Narrow) (is_local Narrow (bits_set bits) f) (others Narrow f) c.in_ok-narrow_sources-in-Narrow.field-0 c.in_ok-narrow_sources-in-Narrow.ensures
    ∙ sym (ap (by_code bits f) c.in-Narrow.is)
