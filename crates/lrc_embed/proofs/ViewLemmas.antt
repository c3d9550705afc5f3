-- A viewer makes the same entries as the published book.
use Rattle.std.proofs.Common.{◌≡◌, ◌++◌, List, [], ◌∷◌, map, sym, ap, ap₂, subst, ◌∙◌, refl}
use Rattle.lrc_topology.specs.declared.NodeInfo.{NodeInfo}
use Rattle.lrc_rules.specs.declared.entry.Entry.{Entry}
use Rattle.lrc_rules.specs.Leases.{grants}
use Rattle.lrc_rules.specs.Histories.{World, IsLegalFrom, next_world, outcome_in, world_from}
use Rattle.lrc_rules.specs.Goodness.{AreSeated}
use Rattle.lrc_rules.specs.Futures.{HaveSameGrants}
use Rattle.lrc_rules.proofs.GoodLemmas.{past-from}
use Rattle.lrc_rules.proofs.AlikeWorldLemmas.{AreTwins, twins, twins-legal, worlds-twins, world_from-append}
use Rattle.lrc_images.specs.declared.image.Image.{Image}
use Rattle.lrc_book.specs.Books.{BookView, state_of, world_of, IsBook, IsImageOfBook, HasBegun}
use Rattle.lrc_book.specs.SameLooks.{HaveSameLooks}
use Rattle.lrc_book.proofs.AlikeLookLemmas.{alike-looks}
use Rattle.lrc_book.proofs.BeginLemmas.{begun-alike, begun-grants}
use Rattle.lrc_book.proofs.ForgetLemmas.{reached-good}
use Rattle.lrc_feed.specs.declared.feed.FedCall.{FedCall}
use Rattle.lrc_embed.specs.Published.{HasMade, call_of}

-- the replies follow from the calls
one_history : (nodes : List NodeInfo) (w : World) (es fs : List Entry) → IsLegalFrom nodes w es → IsLegalFrom nodes w fs → map call_of es ≡ map call_of fs → es ≡ fs
one_history nodes w [] [] legal legal' same = refl
one_history nodes w [] (f ∷ fs) legal legal' same = absurd (cc same)
one_history nodes w (e ∷ es) [] legal legal' same = absurd (cc same)
one_history nodes w (e ∷ es) (f ∷ fs) legal legal' same =
    let call : call_of e ≡ call_of f = cc (same) in
    let reply : e.reply ≡ f.reply = sym legal.0 ∙ ap (λ (c : FedCall). (outcome_in nodes w c.session c.command).0) call ∙ legal'.0 in
    let first : e ≡ f = λ i. record { session = (call i).session; command = (call i).command; reply = reply i } in
    let rest = one_history nodes (next_world nodes w e) es fs legal.1
    (subst (λ (x : Entry). IsLegalFrom nodes (next_world nodes w x) fs) (sym first) legal'.1) (cc (same)) in
    ap₂ (λ (x : Entry) (xs : List Entry). x ∷ xs) first rest

module _ (b view after now : BookView) (i : Image) (book : IsBook b) (own : IsBook view) (is : IsImageOfBook b i) (begun : HasBegun b.nodes i view) (calls : List FedCall)
    (made : HasMade calls b after) (seen : HasMade calls view now) where
  nodes : List NodeInfo
  nodes = b.nodes

  own_seated : AreSeated b.nodes (state_of view)
  own_seated = subst (λ (ns : List NodeInfo). AreSeated ns (state_of view)) begun.nodes_are
      (reached-good view.nodes own.nodes view.base view.history own.based own.legal).seated

  begun_twins : AreTwins b.nodes (world_of b) (world_from b.nodes view.base view.history)
  begun_twins =
      let there : world_of view ≡ world_from b.nodes view.base view.history = ap (λ (ns : List NodeInfo). world_from ns view.base view.history) begun.nodes_are in
      let counts : HaveSameGrants (world_of b).past (world_of view).past = λ s f.
      ap (λ (past : List Entry). grants past s f) (past-from b.nodes b.base b.history)
      ∙ begun-grants b view i book is begun s f
      ∙ sym (ap (λ (past : List Entry). grants past s f) (past-from view.nodes view.base view.history)) in
      subst (λ (w : World). AreTwins b.nodes (world_of b) w) there
      (twins b.nodes (world_of b) (world_of view) (reached-good b.nodes book.nodes b.base b.history book.based book.legal).seated own_seated
      (begun-alike b view i book is begun) counts)

  pub same_entries : made.0 ≡ seen.0
  same_entries =
      let w = world_from b.nodes view.base view.history in
      let legal : IsLegalFrom b.nodes w made.0 = (twins-legal b.nodes book.nodes (world_of b) w made.0 begun_twins).0 made.1 in
      let legal' : IsLegalFrom b.nodes w seen.0 = subst (λ (ns : List NodeInfo). IsLegalFrom ns (world_from ns view.base view.history) seen.0) begun.nodes_are seen.1 in
      one_history b.nodes w made.0 seen.0 legal legal' (made.2 ∙ sym seen.2)

  pub same_history : after.history ≡ b.history ++ now.history
  same_history =
      let own_history : now.history ≡ seen.0 = seen.3 ∙ ap (λ (h : List Entry). h ++ seen.0) begun.empty in
      made.3 ∙ ap (λ (es : List Entry). b.history ++ es) (same_entries ∙ sym own_history)

  pub same_looks : HaveSameLooks b.nodes (state_of after) (state_of now)
  same_looks =
      let w = world_from b.nodes view.base view.history in
      let pair = worlds-twins b.nodes book.nodes (world_of b) w made.0 begun_twins in
      let left : world_from b.nodes (world_of b) made.0 ≡ world_of after =
      sym (world_from-append b.nodes b.base b.history made.0) ∙ sym (λ j. world_from (made.4 j) (made.6 j) (made.3 j)) in
      let right : world_from b.nodes w made.0 ≡ world_of now =
      ap (λ (es : List Entry). world_from b.nodes w es) same_entries
      ∙ sym (world_from-append b.nodes view.base view.history seen.0)
      ∙ sym (λ j. world_from ((seen.4 ∙ begun.nodes_are) j) (seen.6 j) (seen.3 j)) in
      subst (λ (v : World). HaveSameLooks b.nodes (state_of after) v.state) right
      (subst (λ (v : World). HaveSameLooks b.nodes v.state (world_from b.nodes w made.0).state) left
      (alike-looks b.nodes (world_from b.nodes (world_of b) made.0).state (world_from b.nodes w made.0).state pair.alike pair.seated pair.seated'))
