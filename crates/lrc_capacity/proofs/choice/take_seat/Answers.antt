use Rattle.std.proofs.Common.{◌<◌, length, slice_set, arith, ap, ◌∙◌}
use Rattle.std.proofs.lemmas.List.Edits.{map_over_more}
use Rattle.lrc_capacity.specs.declared.room.NodeRoom.{NodeRoom}
use Rattle.lrc_capacity.specs.Trials.{one_more_on}
use Rattle.lrc_capacity.proofs.TrialLemmas.{same-default}
use Rattle.lrc_capacity.proofs.choice.take_seat.Goals as goal

pub loop-room-preserved : goal.loop-room-preserved
loop-room-preserved c =
    let now = c.loop-room.rooms in
    let i = c.loop-room.room-index in
    let within : i < length now = omega (arith, c.loop-room-test.true, c.loop-room.auto.rooms) in
    ap (λ (r : NodeRoom). slice_set now i r) c.seated.ensures
    ∙ map_over_more (one_more_on c.args.node) c.args.rooms.now now i _ c.loop-room-test.true c.loop-room.invariant (same-default now i _ _ within)
