-- An image of a world that a book can begin in is such a world.
use Rattle.std.proofs.Common.{◌≤◌, ℕ, List, subst}
use Rattle.lrc_topology.specs.declared.NodeInfo.{NodeInfo}
use Rattle.lrc_rules.specs.Histories.{World}
use Rattle.lrc_rules.specs.Alike.{AreAlike}
use Rattle.lrc_rules.specs.Futures.{HaveSameGrants}
use Rattle.lrc_rules.proofs.AlikeGoodLemmas.{alike-good, alike-tidy}
use Rattle.lrc_images.specs.declared.image.Image.{Image}
use Rattle.lrc_images.specs.Images.{image_state, image_world}
use Rattle.lrc_images.specs.Rising.{AreRising}
use Rattle.lrc_images.specs.Causes.{most_grants, most_ticks}
use Rattle.lrc_images.specs.Bases.{IsBase}
use Rattle.lrc_images.proofs.RisingLemmas.{rising-distinct}

pub alike-base : (nodes : List NodeInfo) (w : World) (i : Image) → IsBase nodes w → AreRising i → AreAlike w.state (image_state i)
    → HaveSameGrants w.past (image_world i).past → IsBase nodes (image_world i)
alike-base nodes w i base rising alike same = record {
  good = alike-good nodes w.past (image_world i).past w.state (image_state i) alike same (rising-distinct i rising) base.good;
  tidy = alike-tidy nodes w.state (image_state i) alike base.tidy;
  counts = λ s f. subst (λ (n : ℕ). n ≤ most_grants) (same s f) (base.counts s f);
  ticks = subst (λ (n : ℕ). n ≤ most_ticks) alike.clock base.ticks;
}
