use Rattle.std.proofs.Common.{◌≡◌, ◌↔◌, subst}
use Rattle.lrc_topology.specs.Documents.{IsTopologyOf}
use Rattle.lrc_book.specs.Books.{BookView, IsSpent}
use Rattle.lrc_embed.specs.declared.status.TheConstants.{DIFFERENT, FULL}
use Rattle.lrc_embed.proofs.OfLemmas.{of_some}
use Rattle.lrc_embed.proofs.PublishedLemmas.{both_some, both_seen}
use Rattle.lrc_embed.proofs.exports.view.lrc_embed_view.Goals as goal

pub returns-clause-done : goal.returns-clause-done
returns-clause-done c = λ done. both_some _ c.in-Some-take.ensures.book c.in-Some.ensures.end
    (both_seen c.open_view-status.new.viewer.book.owned.book c.open_view-status.new.viewer.feed.owned.end c.deref.ensures c.deref-2.ensures (c.open_view-status.ensures.done done))

pub returns-clause-full : goal.returns-clause-full
returns-clause-full c = λ not_open not_closed moved. of_some _ c.in-Some-take.ensures.book
    (subst (λ (b : BookView). (c.open_view-status.result ≡ FULL) ↔ IsSpent b) c.deref.ensures (c.open_view-status.ensures.full moved))

pub returns-clause-different : goal.returns-clause-different
returns-clause-different c = λ not_open not_closed moved full memory. of_some _ c.in-Some-take.ensures.book
    (subst (λ (b : BookView). (c.open_view-status.result ≡ DIFFERENT) ↔ (¬ IsTopologyOf c.args.nodes.now b.nodes)) c.deref.ensures
    (c.open_view-status.ensures.different moved full memory))
