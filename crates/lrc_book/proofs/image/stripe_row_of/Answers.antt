use Rattle.std.proofs.Common.{Some, sym, ap, ◌∙◌}
use Rattle.lrc_code.specs.declared.codes.Code.{Code}
use Rattle.lrc_stripes.specs.Stored.{Stored, homes_shown}
use Rattle.lrc_book.proofs.ImagedLemmas.{row_with, stripe-some, stripe-none}
use Rattle.lrc_book.proofs.image.stripe_row_of.Goals as goal

pub returns-in-Some : goal.returns-in-Some
returns-in-Some c = λ st kept.
    ap (λ (code : Code). Some (record (row_with st c.args.stripe c.in-Some.homes) { code = code })) (c.code_of.ensures st kept)
    ∙ stripe-some st c.args.stripe c.in-Some.homes
    (sym (c.homes.ensures ∙ ap (λ (x : Stored). homes_shown x c.args.stripe) kept.stripes_is) ∙ c.in-Some.is)

pub returns-in-None : goal.returns-in-None
returns-in-None c = λ st kept.
    stripe-none st c.args.stripe (sym (c.homes.ensures ∙ ap (λ (x : Stored). homes_shown x c.args.stripe) kept.stripes_is) ∙ c.in-None.is)
