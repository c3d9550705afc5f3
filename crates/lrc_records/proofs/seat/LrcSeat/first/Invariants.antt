use Rattle.std.proofs.Common.{◌≡◌, take, map, length}
use Rattle.lrc_records.specs.Replies.{encoded_seat}
use Rattle.lrc_records.proofs.seat.LrcSeat.first.Given as goal

abbrev pub invariant-loop-i : goal.invariant-loop-i
invariant-loop-i g l = record {
  written : map encoded_seat (take l.i l.seats) ≡ take l.i l.encoded;
  long : length l.seats ≡ g.row.N;
}
