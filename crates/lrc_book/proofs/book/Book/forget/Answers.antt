use Rattle.std.proofs.Common.{[], ◌≡◌, ◌++◌, None, sym, ap, subst, ◌∙◌}
use Rattle.lrc_store.specs.declared.cursor.RepairCursor.TheVariants.{First}
use Rattle.lrc_rules.specs.Leases.{grants}
use Rattle.lrc_rules.specs.Alike.{AreAlike}
use Rattle.lrc_rules.specs.Futures.{HaveSameGrants}
use Rattle.lrc_images.specs.declared.image.Image.{Image}
use Rattle.lrc_images.specs.Images.{image_world, image_state}
use Rattle.lrc_images.specs.Causes.{first_cause}
use Rattle.lrc_book.specs.Books.{BookView, base_world, state_of}
use Rattle.lrc_book.specs.Kept.{IsKept}
use Rattle.lrc_book.proofs.ForgetLemmas.{forgotten}
use Rattle.lrc_book.proofs.book.Book.forget.Goals as goal

pub invariant_of-self : goal.invariant_of-self
invariant_of-self c =
    let b = c.self.inside in
    let image = c.in_ok-image.image in
    let alike = subst (λ (v : BookView). AreAlike (state_of v) (image_state image)) (sym c.self.view_is) c.in_ok-image.ensures.alike in
    let same = subst (λ (v : BookView). HaveSameGrants (v.base.past ++ v.history) (image_world image).past) (sym c.self.view_is) c.in_ok-image.ensures.counts in
    let taken = subst (λ (v : BookView). first_cause v.nodes image ≡ None) (sym c.self.view_is) c.in_ok-image.ensures.taken in
    rw c.clear.ensures.items
    (subst (λ (i : Image). IsKept b.store.value b.grants First b.limit (image_world i) []) (sym c.in_ok-base.ensures.ok)
    (forgotten b.store.value b.grants b.repair_cursor b.limit (base_world b.base) b.history.items c.self.invariant image alike same taken))

pub returns-clause-counts : goal.returns-clause-counts
returns-clause-counts c = λ s f.
    c.in_ok-image.ensures.counts s f ∙ ap (λ (i : Image). grants (image_world i).past s f) (sym c.in_ok-base.ensures.ok)
