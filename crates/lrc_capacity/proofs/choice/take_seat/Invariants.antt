use Rattle.std.proofs.Common.{◌≡◌, ◌++◌, take, drop, map}
use Rattle.lrc_capacity.specs.Trials.{one_more_on}
use Rattle.lrc_capacity.proofs.choice.take_seat.Given as goal

-- the nodes so far are done
abbrev pub invariant-loop-room : goal.invariant-loop-room
invariant-loop-room l = l.rooms ≡ map (one_more_on l.node) (take l.room-index l.fn.rooms) ++ drop l.room-index l.fn.rooms
