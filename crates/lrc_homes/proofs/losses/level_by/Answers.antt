use Rattle.std.proofs.Common.{◌≡◌, ◌∙◌, sym, refl, true, false, Some, None, ap}
use Rattle.lrc_code.specs.Losses.{bits_set, margin_of}
use Rattle.lrc_terms.specs.Levels.{has_some}
use Rattle.lrc_terms.proofs.LevelLemmas.{margin-none, margin-some, level_by-lost, level_by-held}
use Rattle.lrc_homes.proofs.losses.level_by.Goals as goal

pub returns-then-not-recoverable_in : goal.returns-then-not-recoverable_in
returns-then-not-recoverable_in c =
    sym (level_by-lost c.args.code (bits_set c.args.homeless.bits) (bits_set c.args.missing.bits) (sym c.recoverable_in.ensures.value ∙ c.if-not-recoverable_in.true))

pub returns-in-None : goal.returns-in-None
returns-in-None c =
    sym (level_by-held c.args.code (bits_set c.args.homeless.bits) (bits_set c.args.missing.bits) None _
    (sym c.recoverable_in.ensures.value ∙ c.if-not-recoverable_in.false) (sym c.in-None.ensures.value) (refl {a = has_some c.args.code (bits_set c.args.missing.bits)}))

pub returns-in-Some-eq3 : goal.returns-in-Some-eq3
returns-in-Some-eq3 c =
    let code = c.args.code in
    let m = bits_set c.args.missing.bits in
    let is : margin_of code m ≡ Some 3 = sym c.in-Some-eq3.ensures.value ∙ ap Some c.in-Some-eq3.field-0-test in
    sym (level_by-held code (bits_set c.args.homeless.bits) m (Some 3) false
    (sym c.recoverable_in.ensures.value ∙ c.if-not-recoverable_in.false) is (margin-none code m is))

pub returns-in-Some : goal.returns-in-Some
returns-in-Some c =
    let code = c.args.code in
    let m = bits_set c.args.missing.bits in
    sym (level_by-held code (bits_set c.args.homeless.bits) m (Some c.in-Some.margin) true
    (sym c.recoverable_in.ensures.value ∙ c.if-not-recoverable_in.false) (sym c.in-Some.ensures.value)
    (margin-some code m c.in-Some.margin (sym c.in-Some.ensures.value) c.in-Some.margin-test.1))
