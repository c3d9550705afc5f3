use Rattle.std.proofs.Common.{subst}
use Rattle.lrc_book.specs.Books.{BookView}
use Rattle.lrc_embed.specs.Calls.{IsStepOf}
use Rattle.lrc_embed.proofs.OfLemmas.{of_some}
use Rattle.lrc_embed.proofs.exports.entries.lrc_embed_call_entry.Goals as goal

pub returns-clause-done : goal.returns-clause-done
returns-clause-done c = λ done. of_some _ c.in-Some-take.ensures.book (of_some _ c.put.ensures (
  c.in-Some.session,
  c.in-Some-read.command,
  c.in-Some.ensures.value,
  c.in-Some-read.ensures.value,
  c.step_entry-status.ensures.head done,
  subst (λ (b : BookView). IsStepOf b c.in-Some.session c.in-Some-read.command c.step_entry-status.new.entry.reply c.step_entry-status.new.book) c.deref_mut.ensures.value (c.step_entry-status.ensures.done done),
))
