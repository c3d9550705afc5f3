use Rattle.std.proofs.Common.{ℕ, List, subst}
use Rattle.lrc_book.specs.Books.{BookView}
use Rattle.lrc_embed.specs.Printed.{IsTextPut, IsTooLong, IsReplyLine}
use Rattle.lrc_embed.proofs.OfLemmas.{of_some}
use Rattle.lrc_embed.proofs.exports.tables.lrc_embed_reply_line.Goals as goal

pub returns-clause-done : goal.returns-clause-done
returns-clause-done c = λ done. of_some _ c.in-Some.ensures.book
    (subst (λ (b : BookView). IsReplyLine b c.args.index (λ (line : List ℕ). IsTextPut line c.args.text.now c.put_reply_line-status.new.text c.put_reply_line-status.new.length))
    c.deref.ensures (c.put_reply_line-status.ensures.done done))

pub returns-clause-short : goal.returns-clause-short
returns-clause-short c = λ short. of_some _ c.in-Some.ensures.book
    (subst (λ (b : BookView). IsReplyLine b c.args.index (λ (line : List ℕ). IsTooLong line c.args.text.now c.put_reply_line-status.new.length))
    c.deref.ensures (c.put_reply_line-status.ensures.short short))
