use Rattle.std.proofs.Common.{◌≡◌, ◌-◌, bit_xor}
use Rattle.lrc_field.specs.Field.{times, times_by}
use Rattle.lrc_field.proofs.field.multiply.Given as goal

-- the sum so far, and what the bits that are left add
abbrev pub invariant-loop-step : goal.invariant-loop-step
invariant-loop-step l = bit_xor l.sum (times_by (8 - l._step) l.bits l.power) ≡ times l.fn.first l.fn.second
