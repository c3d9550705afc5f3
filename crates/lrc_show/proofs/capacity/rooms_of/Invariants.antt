use Rattle.std.proofs.Common.{◌≡◌, map, take}
use Rattle.lrc_show.specs.Facts.{room_in}
use Rattle.lrc_show.proofs.capacity.rooms_of.Given as goal

-- what is read of the nodes so far
abbrev pub invariant-loop-node : goal.invariant-loop-node
invariant-loop-node l = l.rooms.items ≡ map room_in (take l.node-index l.node-items)
