use Rattle.std.proofs.Common.{w16, arith}
use Rattle.std.proofs.lemmas.Bool.{eq-eqb, ne_eqb}
use Rattle.std.proofs.lemmas.Nat.Bits.{bit_at-trailing_zeros}
use Rattle.lrc_stripes.proofs.homes_on.first_fragment.Goals as goal

pub returns-clause-first : goal.returns-clause-first
returns-clause-first c =
    let lowest = bit_at-trailing_zeros w16 c.args.mask.bits (let some = c.if-mask-eq0.false in omega (arith, some)) (omega arith) in
    (eq-eqb _ _ lowest.1, λ g below. ne_eqb _ _ (λ one. let none = lowest.2 g below in omega (arith, none, one)))
