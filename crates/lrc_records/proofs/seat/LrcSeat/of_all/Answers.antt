use Rattle.std.proofs.Common.{arith}
use Rattle.lrc_records.specs.Replies.{encoded_seat, no_seat}
use Rattle.lrc_records.proofs.FilledLemmas.{filled}
use Rattle.lrc_records.proofs.seat.LrcSeat.of_all.Goals as goal

pub returns : goal.returns
returns c = filled encoded_seat c.args.seats.now c.loop-i.encoded no_seat 16 c.loop-i.i (omega (arith, c.loop-i-test.false, c.loop-i.auto.i-end)) c.loop-i.invariant.written c.loop-i.invariant.rest
