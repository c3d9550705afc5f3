use Rattle.std.proofs.Common.{◌+◌, ◌∙◌, ap, subst}
use Rattle.lrc_book.specs.Books.{BookView}
use Rattle.lrc_feed.specs.Feeds.{FeedAt, passed}
use Rattle.lrc_embed.specs.Calls.{IsStepOf}
use Rattle.lrc_embed.proofs.PublishedLemmas.{both_some}
use Rattle.lrc_embed.proofs.exports.publish_call.lrc_embed_call_published.Goals as goal

pub returns-clause-done : goal.returns-clause-done
returns-clause-done c = λ done.
    let session = c.in-Some.session in let command = c.in-Some-read.command in
    let status = c.step_fed-status in
    both_some _ c.in-Some-take-2.ensures.book c.in-Some-take.ensures.end (both_some _ c.put-2.ensures c.put-3.ensures (
      session,
      command,
      c.in-Some.ensures.value,
      c.in-Some-read.ensures.value,
      subst (λ (b : BookView). IsStepOf b session command status.new.reply status.new.book) c.deref_mut.ensures.value (status.ensures.done done),
      status.ensures.fed done ∙ ap (λ (e : FeedAt). record (passed e (record { session = session; command = command })) { known = e.known + 1 }) c.deref_mut-2.ensures.value,
    ))
