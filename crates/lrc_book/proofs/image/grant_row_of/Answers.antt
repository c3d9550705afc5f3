use Rattle.std.proofs.Common.{sym, ◌∙◌}
use Rattle.lrc_book.proofs.ImagedLemmas.{grant-some, grant-none}
use Rattle.lrc_book.proofs.image.grant_row_of.Goals as goal

pub returns-then-has_any : goal.returns-then-has_any
returns-then-has_any c = λ past counted.
    grant-some past c.args.grants.now c.args.stripe c.counts_of-granted.result c.counts_of-granted.ensures counted (sym c.has_any.ensures ∙ c.if-has_any.true)

pub returns-else-has_any : goal.returns-else-has_any
returns-else-has_any c = λ past counted.
    grant-none past c.args.grants.now c.args.stripe c.counts_of-granted.result c.counts_of-granted.ensures counted (sym c.has_any.ensures ∙ c.if-has_any.false)
