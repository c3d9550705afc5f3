use Rattle.std.proofs.Common.{Fits, eqb, w8, w16, sym, ap, subst, ◌∙◌, arith}
use Rattle.std.proofs.Math.Facts.{Fits-of_lt}
use Rattle.std.proofs.lemmas.Simd.{bitmask_splat}
use Rattle.lrc_code.specs.Losses.{bits_set}
use Rattle.lrc_homes.proofs.MaskLemmas.{alike-few, alike-set}
use Rattle.lrc_homes.proofs.home_domains.fragments_beside.Goals as goal

pub overflow_cast-alike : goal.overflow_cast-alike
overflow_cast-alike c =
    let numbers = c.args.numbers.now in
    subst (Fits w16) (sym (bitmask_splat w8 eqb numbers 16 c.args.number c.told-numbers (omega arith))) (Fits-of_lt (alike-few numbers c.args.number c.told-numbers))

pub returns-clause-on : goal.returns-clause-on
returns-clause-on c = λ f.
    let numbers = c.args.numbers.now in
    ap (λ n. bits_set n f) (c.from_bits.ensures ∙ bitmask_splat w8 eqb numbers 16 c.args.number c.told-numbers (omega arith))
    ∙ alike-set numbers c.args.number f c.told-numbers
