use Rattle.std.proofs.Common.{length, subst}
use Rattle.lrc_book.specs.Books.{BookView, state_of}
use Rattle.lrc_walks.specs.WalkRows.{AreFirstRows}
use Rattle.lrc_changes.specs.Changes.{changes}
use Rattle.lrc_embed.specs.Calls.{IsStepOf}
use Rattle.lrc_embed.specs.Changed.{HasNoRoom}
use Rattle.lrc_embed.proofs.OfLemmas.{of_some}
use Rattle.lrc_embed.proofs.exports.changes.lrc_embed_call_changes.Goals as goal

pub returns-clause-done : goal.returns-clause-done
returns-clause-done c = λ done. of_some _ c.in-Some-take.ensures.book (of_some _ c.put.ensures (
  c.in-Some.session,
  c.in-Some-read.command,
  c.in-Some.ensures.value,
  c.in-Some-read.ensures.value,
  c.step_with_changes-status.ensures.head done,
  subst (λ (b : BookView). IsStepOf b c.in-Some.session c.in-Some-read.command c.step_with_changes-status.new.entry.reply c.step_with_changes-status.new.book) c.deref_mut.ensures.value (c.step_with_changes-status.ensures.done done),
))

pub returns-clause-rows : goal.returns-clause-rows
returns-clause-rows c = λ done. of_some _ c.in-Some-take.ensures.book (of_some _ c.put.ensures
    (subst (λ (b : BookView). AreFirstRows (changes (state_of b) (state_of c.step_with_changes-status.new.book)) c.step_with_changes-status.new.count c.args.rows.now c.step_with_changes-status.new.rows)
    c.deref_mut.ensures.value (c.step_with_changes-status.ensures.rows done)))

pub returns-clause-short : goal.returns-clause-short
returns-clause-short c = λ short. of_some _ c.in-Some-take.ensures.book (
  c.in-Some.session,
  c.in-Some-read.command,
  c.in-Some.ensures.value,
  c.in-Some-read.ensures.value,
  subst (λ (b : BookView). HasNoRoom b c.in-Some.session c.in-Some-read.command (length c.args.rows.now) c.step_with_changes-status.new.count)
      c.deref_mut.ensures.value (c.step_with_changes-status.ensures.short short),
)
