use Rattle.std.proofs.Common.{subst}
use Rattle.lrc_book.specs.Books.{BookView}
use Rattle.lrc_embed.specs.Leased.{HasRecipe, HasNone, HasNoLease}
use Rattle.lrc_embed.proofs.OfLemmas.{of_some}
use Rattle.lrc_embed.proofs.exports.recipe.lrc_embed_recipe.Goals as goal

pub returns-clause-done : goal.returns-clause-done
returns-clause-done c = λ is. of_some _ c.in-Some-take.ensures.book (
  c.in-Some.stripe,
  c.in-Some-new.fragment,
  c.in-Some.ensures.value,
  c.in-Some-new.ensures.value,
  subst (λ (b : BookView). HasRecipe b c.put_recipe_now-status.new.recipe c.in-Some.stripe c.in-Some-new.fragment) c.deref.ensures (c.put_recipe_now-status.ensures.done is),
)

pub returns-clause-undetermined : goal.returns-clause-undetermined
returns-clause-undetermined c = λ is. of_some _ c.in-Some-take.ensures.book (
  c.in-Some.stripe,
  c.in-Some-new.fragment,
  c.in-Some.ensures.value,
  c.in-Some-new.ensures.value,
  subst (λ (b : BookView). HasNone b c.in-Some.stripe c.in-Some-new.fragment) c.deref.ensures (c.put_recipe_now-status.ensures.undetermined is),
)

pub returns-clause-unknown : goal.returns-clause-unknown
returns-clause-unknown c = λ is. of_some _ c.in-Some-take.ensures.book (
  c.in-Some.stripe,
  c.in-Some-new.fragment,
  c.in-Some.ensures.value,
  c.in-Some-new.ensures.value,
  subst (λ (b : BookView). HasNoLease b c.in-Some.stripe c.in-Some-new.fragment) c.deref.ensures (c.put_recipe_now-status.ensures.unknown is),
)
