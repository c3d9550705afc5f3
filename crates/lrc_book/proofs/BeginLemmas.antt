-- A book that begins in the image of another book.
use Rattle.std.proofs.Common.{◌≡◌, ◌+◌, ◌++◌, ℕ, List, length, append-nil, sym, ap, ap₂, subst, ◌∙◌, arith}
use Rattle.lrc_topology.specs.declared.NodeInfo.{NodeInfo}
use Rattle.lrc_rules.specs.declared.entry.Entry.{Entry}
use Rattle.lrc_rules.specs.States.{State}
use Rattle.lrc_rules.specs.Leases.{grants}
use Rattle.lrc_rules.specs.Histories.{World, state_from}
use Rattle.lrc_rules.specs.Goodness.{AreSeated}
use Rattle.lrc_rules.specs.Alike.{AreAlike}
use Rattle.lrc_rules.specs.Futures.{HaveSameGrants}
use Rattle.lrc_images.specs.declared.image.Image.{Image}
use Rattle.lrc_images.specs.Images.{image_world, image_state}
use Rattle.lrc_images.specs.Rows.{IsImageOf}
use Rattle.lrc_images.proofs.OneImageLemmas.{alike-image}
use Rattle.lrc_book.specs.Books.{BookView, state_of, IsBook, IsImageOfBook, HasBegun}
use Rattle.lrc_book.specs.SameLooks.{HaveSameLooks}
use Rattle.lrc_book.proofs.AlikeLookLemmas.{alike-looks}
use Rattle.lrc_book.proofs.ForgetLemmas.{reached-good, imaged-grants, imaged-alike}

module _ (b c : BookView) (i : Image) (book : IsBook b) (is : IsImageOfBook b i) (begun : HasBegun b.nodes i c) where
  -- its state is that of the image
  state-begun : state_of c ≡ image_state i
  state-begun = ap₂ (λ (w : World) (h : List Entry). state_from c.nodes w h) begun.base_is begun.empty

  past-begun : c.base.past ++ c.history ≡ (image_world i).past
  past-begun = ap₂ (λ (w : World) (h : List Entry). w.past ++ h) begun.base_is begun.empty ∙ append-nil (image_world i).past

  number-begun : c.before + length c.history ≡ b.before + length b.history
  number-begun = ap₂ (λ (n : ℕ) (h : List Entry). n + length h) begun.before_is begun.empty ∙ (omega (arith, is.before_is))

  alike : AreAlike (state_of b) (image_state i)
  alike = imaged-alike b.nodes book.nodes b.base b.history book.based book.legal (b.before + length b.history) i is

  same : HaveSameGrants (b.base.past ++ b.history) (image_world i).past
  same = imaged-grants b.nodes book.nodes b.base b.history book.based book.legal (b.before + length b.history) i is

  pub begun-alike : AreAlike (state_of b) (state_of c)
  begun-alike = subst (AreAlike (state_of b)) (sym state-begun) alike

  pub begun-grants : HaveSameGrants (b.base.past ++ b.history) (c.base.past ++ c.history)
  begun-grants s f = same s f ∙ ap (λ (past : List Entry). grants past s f) (sym past-begun)

  pub begun-looks : IsBook c → HaveSameLooks b.nodes (state_of b) (state_of c)
  begun-looks book' =
      let old = (reached-good b.nodes book.nodes b.base b.history book.based book.legal).seated in
      let new : AreSeated b.nodes (state_of c) =
      subst (λ (ns : List NodeInfo). AreSeated ns (state_of c)) begun.nodes_are
      (reached-good c.nodes book'.nodes c.base c.history book'.based book'.legal).seated in
      alike-looks b.nodes (state_of b) (state_of c) begun-alike old new

  pub begun-image : IsBook c → IsImageOfBook c i
  begun-image book' =
      let seated : AreSeated b.nodes (image_state i) =
      subst (λ (ns : List NodeInfo). AreSeated ns (image_state i)) begun.nodes_are
      (subst (λ (w : World). AreSeated c.nodes w.state) begun.base_is book'.based.good.seated) in
      let old = (reached-good b.nodes book.nodes b.base b.history book.based book.legal).seated in
      let image = alike-image b.nodes (b.base.past ++ b.history) (image_world i).past (state_of b) (image_state i) (b.before + length b.history) i old seated alike same is in
      subst (λ (n : ℕ). IsImageOf c.nodes (c.base.past ++ c.history) (state_of c) n i) (sym number-begun)
      (subst (λ (st : State). IsImageOf c.nodes (c.base.past ++ c.history) st (b.before + length b.history) i) (sym state-begun)
      (subst (λ (past : List Entry). IsImageOf c.nodes past (image_state i) (b.before + length b.history) i) (sym past-begun)
      (subst (λ (ns : List NodeInfo). IsImageOf ns (image_world i).past (image_state i) (b.before + length b.history) i) (sym begun.nodes_are) image)))
