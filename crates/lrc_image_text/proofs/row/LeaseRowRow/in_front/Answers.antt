use Rattle.std.proofs.Common.{arith, codes, [], ◌∷◌, ◌++◌, decimal, refl}
use Rattle.lrc_image_text.specs.Lines.{seat_word}
use Rattle.lrc_image_text.proofs.RowLemmas.{behind_number}
use Rattle.lrc_image_text.proofs.row.LeaseRowRow.in_front.Goals as goal

pub returns-in-None-lease_terms-clause-none : goal.returns-in-None-lease_terms-clause-none
returns-in-None-lease_terms-clause-none c = λ row rest readable is.
    let low = c.in-Some.stripe.in_range in
    let low' = row.stripe.in_range in
    let low-f = c.in-Some.fragment.in_range in
    let low-f' = row.fragment.in_range in
    let tail = decimal row.holder.value ++ 32 ∷ (seat_word row.target ++ 32 ∷ (decimal row.expiry ++ 10 ∷ rest)) in
    let first = behind_number c.args.text.now (codes "lease ") c.in-Some.stripe.value row.stripe.value (decimal c.in-Some.fragment.value ++ 32 ∷ c.in-Some.rest.now) (decimal row.fragment.value ++ 32 ∷ tail)
    (omega (arith, low)) (omega (arith, low')) c.in-Some.ensures.some is in
    let second = behind_number (decimal c.in-Some.fragment.value ++ 32 ∷ c.in-Some.rest.now) [] c.in-Some.fragment.value row.fragment.value c.in-Some.rest.now tail (omega (arith, low-f)) (omega (arith, low-f')) refl first in
    c.in-None-lease_terms.ensures.none row.holder row.target row.expiry rest readable.0 readable.1 second
