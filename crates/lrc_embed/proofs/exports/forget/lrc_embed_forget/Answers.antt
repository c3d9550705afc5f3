use Rattle.std.proofs.Common.{◌≡◌, ◌↔◌, subst}
use Rattle.lrc_book.specs.Books.{BookView, IsSpent}
use Rattle.lrc_embed.specs.declared.status.TheConstants.{FULL}
use Rattle.lrc_embed.specs.Calls.{IsForgotten}
use Rattle.lrc_embed.proofs.OfLemmas.{of_some}
use Rattle.lrc_embed.proofs.exports.forget.lrc_embed_forget.Goals as goal

pub returns-clause-done : goal.returns-clause-done
returns-clause-done c = λ done. of_some _ c.in-Some.ensures.book (of_some _ c.put.ensures
    (subst (λ (b : BookView). IsForgotten b c.forget-status.new.book) c.deref_mut.ensures.value (c.forget-status.ensures.done done)))

pub returns-clause-full : goal.returns-clause-full
returns-clause-full c = λ _. of_some _ c.in-Some.ensures.book
    (subst (λ (b : BookView). (c.forget-status.result ≡ FULL) ↔ IsSpent b) c.deref_mut.ensures.value c.forget-status.ensures.full)
