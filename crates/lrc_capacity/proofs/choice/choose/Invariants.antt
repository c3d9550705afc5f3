use Rattle.std.proofs.Common.{◌≡◌, take}
use Rattle.lrc_capacity.specs.Trials.{chosen_room}
use Rattle.lrc_capacity.proofs.choice.choose.Given as goal

-- the best of the nodes so far
abbrev pub invariant-loop-room : goal.invariant-loop-room
invariant-loop-room l = l.best ≡ chosen_room l.code l.fragment l.beside (take l.room-index l.rooms)
