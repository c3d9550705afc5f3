use Rattle.std.proofs.Common.{◌≡◌, take}
use Rattle.lrc_images.specs.Rising.{lease_first, IsRising}
use Rattle.lrc_images.specs.Causes.{at_place, lease_cause, with_leases}
use Rattle.lrc_store.specs.Stores.{IsOf}
use Rattle.lrc_restore.specs.Stages.{leases_from}
use Rattle.lrc_restore.proofs.WalkLemmas.{IsFrom}
use Rattle.lrc_restore.proofs.leases.restore_leases.Given as goal

abbrev pub invariant-loop-index : goal.invariant-loop-index
invariant-loop-index l = record {
  nodes : l.store.topology ≡ l.initial.store.topology;
  from : IsFrom (at_place (leases_from l.image) (lease_cause l.initial.store.topology l.image)) l.rows l.index;
  rising : IsRising lease_first (take l.index l.rows);
  kept : IsOf (with_leases l.image (take l.index l.rows)) l.store;
}
