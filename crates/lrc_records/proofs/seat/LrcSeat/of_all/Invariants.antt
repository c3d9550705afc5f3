use Rattle.std.proofs.Common.{◌≡◌, take, drop, map, length, replicate}
use Rattle.lrc_records.specs.Replies.{encoded_seat, no_seat}
use Rattle.lrc_records.proofs.seat.LrcSeat.of_all.Given as goal

abbrev pub invariant-loop-i : goal.invariant-loop-i
invariant-loop-i l = record {
  written : take l.i l.encoded ≡ map encoded_seat (take l.i l.seats);
  rest : drop l.i l.encoded ≡ drop l.i (replicate 16 no_seat);
  sixteen : length l.encoded ≡ 16;
}
