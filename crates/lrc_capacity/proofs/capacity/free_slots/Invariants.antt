use Rattle.std.proofs.Common.{◌≡◌, ◌*◌, ◌≤◌, take}
use Rattle.std.specs.Prelude.{sum_by}
use Rattle.lrc_capacity.specs.Trials.{free_on}
use Rattle.lrc_capacity.proofs.capacity.free_slots.Given as goal

abbrev pub invariant-loop-room : goal.invariant-loop-room
invariant-loop-room l = record { so_far : l.total ≡ sum_by free_on (take l.room-index l.rooms); few : l.total ≤ l.room-index * 65536 }
