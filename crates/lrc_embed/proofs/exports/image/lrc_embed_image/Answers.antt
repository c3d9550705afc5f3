use Rattle.std.proofs.Common.{◌≡◌, ◌↔◌, subst}
use Rattle.lrc_book.specs.Books.{BookView, IsSpent}
use Rattle.lrc_openings.specs.ImageTexts.{IsTextOfBook}
use Rattle.lrc_embed.specs.declared.status.TheConstants.{FULL}
use Rattle.lrc_embed.proofs.OfLemmas.{of_some}
use Rattle.lrc_embed.proofs.exports.image.lrc_embed_image.Goals as goal

pub returns-clause-done : goal.returns-clause-done
returns-clause-done c = λ done. of_some _ c.in-Some.ensures.book
    (let w = c.write_image-status.ensures.done done in (w.0, subst (λ (b : BookView). IsTextOfBook b w.0) c.deref.ensures w.1, w.2, w.3))

pub returns-clause-short : goal.returns-clause-short
returns-clause-short c = λ short. of_some _ c.in-Some.ensures.book
    (let w = c.write_image-status.ensures.short short in (w.0, subst (λ (b : BookView). IsTextOfBook b w.0) c.deref.ensures w.1, w.2, w.3))

pub returns-clause-full : goal.returns-clause-full
returns-clause-full c = λ _. of_some _ c.in-Some.ensures.book
    (subst (λ (b : BookView). (c.write_image-status.result ≡ FULL) ↔ IsSpent b) c.deref.ensures c.write_image-status.ensures.full)
