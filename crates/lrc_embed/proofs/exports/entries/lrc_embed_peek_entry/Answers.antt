use Rattle.std.proofs.Common.{subst}
use Rattle.lrc_book.specs.Books.{BookView}
use Rattle.lrc_embed.specs.Calls.{IsReplyOf}
use Rattle.lrc_embed.proofs.OfLemmas.{of_some}
use Rattle.lrc_embed.proofs.exports.entries.lrc_embed_peek_entry.Goals as goal

pub returns-clause-done : goal.returns-clause-done
returns-clause-done c = λ done. of_some _ c.in-Some-take.ensures.book (
  c.in-Some.asker,
  c.in-Some-read.command,
  c.in-Some.ensures.value,
  c.in-Some-read.ensures.value,
  c.decide_entry-status.ensures.head done,
  subst (λ (b : BookView). IsReplyOf b c.in-Some.asker c.in-Some-read.command c.decide_entry-status.new.entry.reply) c.deref.ensures (c.decide_entry-status.ensures.done done),
)
