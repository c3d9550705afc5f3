use Rattle.std.proofs.Common.{◌+◌, arith, sym, ap₂, ◌∙◌}
use Rattle.std.proofs.lemmas.List.Sums.{sum_by_more}
use Rattle.lrc_capacity.specs.Trials.{free_on}
use Rattle.lrc_capacity.proofs.capacity.free_slots.Goals as goal

pub loop-room-preserved : goal.loop-room-preserved
loop-room-preserved c =
    let so_far = c.loop-room.invariant in
    let few = c.free_on.ensures.few in
    let same = c.from-total.ensures in
    record {
      so_far = ap₂ (λ a b. a + b) so_far.so_far (c.from-total.ensures ∙ c.free_on.ensures.value)
          ∙ sym (sum_by_more free_on c.args.rooms.now c.loop-room.room-index _ c.loop-room-test.true);
      few = omega (arith, so_far.few, few, same);
    }
