use Rattle.std.proofs.Common.{arith, codes, ◌∷◌, ◌++◌, decimal}
use Rattle.lrc_image_text.proofs.RowLemmas.{behind_number}
use Rattle.lrc_image_text.proofs.part.lease_place.Goals as goal

pub returns-in-None-number_to-clause-none : goal.returns-in-None-number_to-clause-none
returns-in-None-number_to-clause-none c = λ s f rest is.
    let low = c.in-Some.stripe.in_range in
    let low' = s.in_range in
    c.in-None-number_to.ensures.none f.value rest f.in_range
    (behind_number c.args.text.now (codes "lease ") c.in-Some.stripe.value s.value c.in-Some.rest.now (decimal f.value ++ 32 ∷ rest) (omega (arith, low)) (omega (arith, low')) c.in-Some.ensures.some is)
