use Rattle.std.proofs.Common.{◌≡◌, take, flat_map}
use Rattle.lrc_images.specs.Images.{row_homes}
use Rattle.lrc_images.specs.Rising.{stripe_first, IsRising}
use Rattle.lrc_images.specs.Causes.{at_place, stripe_cause, with_homes}
use Rattle.lrc_store.specs.Stores.{IsOf}
use Rattle.lrc_restore.specs.Stages.{stripes_from}
use Rattle.lrc_restore.proofs.WalkLemmas.{IsFrom}
use Rattle.lrc_restore.proofs.stripes.restore_stripes.Given as goal

abbrev pub invariant-loop-i : goal.invariant-loop-i
invariant-loop-i l = record {
  nodes : l.store.topology ≡ l.initial.store.topology;
  rising : IsRising stripe_first (take l.i l.rows);
  kept : IsOf (with_homes l.image (take l.i l.rows) (flat_map row_homes (take l.i l.rows))) l.store;
  clear : IsFrom (at_place (stripes_from l.image) (stripe_cause l.initial.store.topology l.image)) l.rows l.i;
}
