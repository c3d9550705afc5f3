use Rattle.std.proofs.Common.{◌≡◌, List, subst}
use Rattle.lrc_topology.specs.declared.NodeInfo.{NodeInfo}
use Rattle.lrc_openings.specs.Begun.{IsBegunOver}
use Rattle.lrc_embed.specs.Published.{IsViewOf}
use Rattle.lrc_feed.specs.Feeds.{FeedAt}
use Rattle.lrc_book.specs.Books.{BookView}
use Rattle.lrc_embed.proofs.PublishedLemmas.{both_some}
use Rattle.lrc_embed.proofs.exports.view.open_view.Goals as goal

pub returns-in-Ok-begin_over-clause-done : goal.returns-in-Ok-begin_over-clause-done
returns-in-Ok-begin_over-clause-done c = λ _.
    let start = c.in-Ok.start in let view = c.in-Ok-begin_over.view.value in
    let begun = subst (λ (ns : List NodeInfo). IsBegunOver ns start.1 view) c.in-Ok.ensures.value.0 c.in-Ok-begin_over.ensures.begun in
    both_some (λ (v : BookView) (f : FeedAt). IsViewOf c.args.book.now v × (f ≡ c.args.end.now)) c.put.ensures c.put-in-Ok-begin_over.ensures
    ((start.1, c.in-Ok.ensures.value.1, begun), c.in-Ok-another_end.ensures)
