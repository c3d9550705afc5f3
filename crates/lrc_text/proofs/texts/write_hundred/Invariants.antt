use Rattle.std.proofs.Common.{◌≡◌, ◌+◌, ◌*◌, ◌≤◌, ◌++◌, length, drop}
use Rattle.lrc_text.specs.Texts.{lines_from}
use Rattle.lrc_text.proofs.texts.write_hundred.Given as goal

abbrev pub invariant-loop-left : goal.invariant-loop-left
invariant-loop-left l = record {
  left : l.left ≤ length l.records;
  room : 220 * l.left ≤ l.at;
  used : l.end + 220 * l.left ≤ l.at + 220 * length l.records;
  within : l.at ≤ l.end;
  written : drop l.at l.text ≡ lines_from (l.hundreds * 100 + (l.rest + l.left)) (drop l.left l.records) ++ drop l.end l.fn.text;
}

abbrev pub decreases-loop-left : goal.decreases-loop-left
decreases-loop-left l = l.left
