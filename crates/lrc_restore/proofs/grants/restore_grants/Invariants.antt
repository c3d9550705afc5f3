use Rattle.std.proofs.Common.{take}
use Rattle.lrc_images.specs.Images.{earlier}
use Rattle.lrc_images.specs.Rising.{grant_first, IsRising}
use Rattle.lrc_images.specs.Causes.{at_place, grant_cause}
use Rattle.lrc_store.specs.Stores.{AreGrantsOf}
use Rattle.lrc_restore.specs.Stages.{grants_from}
use Rattle.lrc_restore.proofs.WalkLemmas.{IsFrom}
use Rattle.lrc_restore.proofs.grants.restore_grants.Given as goal

abbrev pub invariant-loop-index : goal.invariant-loop-index
invariant-loop-index l = record {
  from : IsFrom (at_place (grants_from l.image) grant_cause) l.rows l.index;
  rising : IsRising grant_first (take l.index l.rows);
  kept : AreGrantsOf (earlier (take l.index l.rows)) l.grants;
}
