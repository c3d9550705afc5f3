use Rattle.std.proofs.Common.{◌≡◌, suc, ◌+◌, ◌-◌, arith, sym, ◌∙◌}
use Rattle.lrc_field.proofs.FieldLemmas.{times_whole, times_digit, times_done}
use Rattle.lrc_field.proofs.field.multiply.Goals as goal

pub loop-step-init : goal.loop-step-init
loop-step-init c = times_whole c.args.first c.args.second

pub loop-step-preserved : goal.loop-step-preserved
loop-step-preserved c =
    let left : 8 - c.loop-step._step ≡ suc (8 - (c.loop-step._step + 1)) = omega arith in
    let step = times_digit (8 - (c.loop-step._step + 1)) c.loop-step.sum c.loop-step.bits c.loop-step.power in
    let before = rw left at c.loop-step.invariant in
    rw c.times_x-power.ensures (step ∙ before)

pub returns : goal.returns
returns c =
    let none : 8 - c.loop-step._step ≡ 0 = omega arith in
    let all = rw none at c.loop-step.invariant in
    sym (times_done c.loop-step.sum c.loop-step.bits c.loop-step.power) ∙ all
