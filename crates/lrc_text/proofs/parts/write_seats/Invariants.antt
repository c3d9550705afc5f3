use Rattle.std.proofs.Common.{◌≡◌, ◌+◌, ◌*◌, ◌≤◌, ◌++◌, length, drop, map}
use Rattle.lrc_text.specs.Texts.{seat_text, spaced_words}
use Rattle.lrc_text.proofs.parts.write_seats.Given as goal

abbrev pub invariant-loop-left : goal.invariant-loop-left
invariant-loop-left l = record {
  left : l.left ≤ length l.seats;
  room : 12 * l.left ≤ l.at;
  used : l.end + 12 * l.left ≤ l.at + 12 * length l.seats;
  within : l.at ≤ l.end;
  written : drop l.at l.text ≡ spaced_words (map seat_text (drop l.left l.seats)) ++ drop l.end l.fn.text;
}

abbrev pub decreases-loop-left : goal.decreases-loop-left
decreases-loop-left l = l.left
