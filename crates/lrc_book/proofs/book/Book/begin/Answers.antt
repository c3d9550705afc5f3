use Rattle.std.proofs.Common.{◌≡◌, List, None, refl, sym, subst, lit≤}
use Rattle.lrc_topology.specs.declared.NodeInfo.{NodeInfo}
use Rattle.lrc_images.specs.declared.image.Image.{Image}
use Rattle.lrc_images.specs.Images.{image_world, image_state}
use Rattle.lrc_images.specs.Causes.{first_cause}
use Rattle.lrc_store.specs.Stores.{IsOf, AreGrantsOf}
use Rattle.lrc_book.proofs.ForgetLemmas.{begun}
use Rattle.lrc_book.proofs.book.Book.begin.Goals as goal

pub invariant_of-result : goal.invariant_of-result
invariant_of-result c =
    let k = c.in_ok-store.store.value in
    let image = c.in_ok-image.image.value in
    let is = c.deref.ensures in
    let taken = subst (λ (ns : List NodeInfo). first_cause ns c.deref.result.now ≡ None) (sym c.in_ok-store.ensures.nodes) (c.in_ok-store.ensures.lawful refl) in
    rw c.new-2.ensures.items
    (begun k c.in_ok-store.grants 1000000 image (subst (λ (i : Image). IsOf (image_state i) k) is c.in_ok-store.ensures.store)
    (subst (λ (i : Image). AreGrantsOf (image_world i).past c.in_ok-store.grants) is c.in_ok-store.ensures.grants)
    (subst (λ (i : Image). first_cause k.topology i ≡ None) is taken) (lit≤ tt))
