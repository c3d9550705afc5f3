-- Images with the same rows have the same text, and a book begins alike in them.
use Rattle.std.proofs.Common.{◌≡◌, ℕ, List, [], ◌∷◌, ◌++◌, map, get_or, Some, sym, ap, ◌∙◌, arith, Option}
use Rattle.lrc_code.specs.declared.numbers.UpgradeNo.{UpgradeNo}
use Rattle.lrc_topology.specs.declared.NodeInfo.{NodeInfo}
use Rattle.lrc_rules.specs.declared.entry.Entry.{Entry}
use Rattle.lrc_rules.specs.States.{State}
use Rattle.lrc_rules.specs.Histories.{World}
use Rattle.lrc_images.specs.declared.image.NodeRow.{NodeRow}
use Rattle.lrc_images.specs.declared.image.StripeRow.{StripeRow}
use Rattle.lrc_images.specs.declared.image.GrantRow.{GrantRow}
use Rattle.lrc_images.specs.declared.image.LeaseRow.{LeaseRow}
use Rattle.lrc_images.specs.declared.image.Image.{Image}
use Rattle.lrc_images.specs.Images.{earlier}
use Rattle.lrc_images.specs.Causes.{first_cause}
use Rattle.lrc_images.specs.Rows.{IsImageOf}
use Rattle.lrc_images.proofs.CutLemmas.{state_by, cause_by, cause-is}
use Rattle.lrc_image_text.specs.Lines.{Version, Before, Clock, Node, Stripe, Grants, Lease, End, lines_text}
use Rattle.lrc_image_text.specs.Texts.{upgrading_lines, image_text, HaveSameRows}
use Rattle.lrc_outputs.specs.Sequels.{start_in}

-- ---- what an image says, as functions of its rows

module _ (clock : ℕ) (upgrading : Option UpgradeNo) (ns : List NodeRow) (ss : List StripeRow) (gs : List GrantRow) (ls : List LeaseRow) where
  abbrev world_by : World
  world_by = record { past = earlier gs; state = state_by [] clock upgrading ns ss gs ls }

  abbrev text_by : ℕ → List ℕ
  text_by entries =
      lines_text ((Version ∷ Before entries ∷ Clock clock ∷ (upgrading_lines upgrading ++ (map Node ns ++ (map Stripe ss ++ (map Grants gs ++ map Lease ls))))) ++ End ∷ [])

-- ---- images with the same rows

module _ (i j : Image) (same : HaveSameRows i j) where
  same-cause : (nodes : List NodeInfo) → first_cause nodes i ≡ first_cause nodes j
  same-cause nodes =
      let rows : cause_by nodes i.clock i.upgrading i.before i.nodes.items i.stripes.items i.grants.items i.leases.items ≡ cause_by nodes j.clock j.upgrading j.before j.nodes.items j.stripes.items j.grants.items j.leases.items =
      λ k. cause_by nodes (same.clock k) (same.upgrading k) (same.before k) (same.nodes k) (same.stripes k) (same.grants k) (same.leases k) in
      cause-is nodes i ∙ rows ∙ sym (cause-is nodes j)

  pub same-start : start_in (Some i) ≡ start_in (Some j)
  same-start =
      λ k. record {
        base = world_by (same.clock k) (same.upgrading k) (same.nodes k) (same.stripes k) (same.grants k) (same.leases k);
        before = same.before k;
        upgrading = same.upgrading k;
        cause_over = λ nodes. same-cause nodes k;
      }

  pub same-text : image_text i ≡ image_text j
  same-text = λ k. text_by (same.clock k) (same.upgrading k) (same.nodes k) (same.stripes k) (same.grants k) (same.leases k) (same.before k)

-- a state has one image
pub one-image : (nodes : List NodeInfo) (past : List Entry) (st : State) (before : ℕ) (i j : Image) → IsImageOf nodes past st before i → IsImageOf nodes past st before j → image_text i ≡ image_text j
one-image nodes past st before i j p q =
    same-text i j (record {
      before = p.before_is ∙ sym q.before_is;
      clock = p.clock_is ∙ sym q.clock_is;
      upgrading = p.upgrading_is ∙ sym q.upgrading_is;
      nodes = p.nodes_are ∙ sym q.nodes_are;
      stripes = p.stripes_are ∙ sym q.stripes_are;
      grants = p.grants_are ∙ sym q.grants_are;
      leases = p.leases_are ∙ sym q.leases_are;
    })

-- the text of an image is not empty
pub some-text : (i : Image) → image_text i ≡ [] → ⊥
some-text i none = let first = ap (λ l. get_or l 0 0) none in absurd (omega (arith, first))
