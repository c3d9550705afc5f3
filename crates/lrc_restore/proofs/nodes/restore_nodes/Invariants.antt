use Rattle.std.proofs.Common.{◌≡◌, take}
use Rattle.lrc_images.specs.Rising.{node_first, IsRising}
use Rattle.lrc_images.specs.Causes.{at_place, node_cause}
use Rattle.lrc_store.specs.Stores.{IsOf}
use Rattle.lrc_restore.specs.Stages.{with_nodes}
use Rattle.lrc_restore.proofs.WalkLemmas.{IsFrom}
use Rattle.lrc_restore.proofs.nodes.restore_nodes.Given as goal

-- the rows so far are in order and have no cause, and the store is that of the image with these rows
abbrev pub invariant-loop-i : goal.invariant-loop-i
invariant-loop-i l = record {
  nodes : l.store.topology ≡ l.initial.store.topology;
  kept : IsOf (with_nodes l.image (take l.i l.rows)) l.store;
  rising : IsRising node_first (take l.i l.rows);
  from : IsFrom (at_place 1 (node_cause l.initial.store.topology)) l.rows l.i;
}
