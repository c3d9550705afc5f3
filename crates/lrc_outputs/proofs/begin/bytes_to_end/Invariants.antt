use Rattle.std.proofs.Common.{◌≡◌, ◌+◌, length}
use Rattle.lrc_script.specs.Scripts.{lines_of}
use Rattle.lrc_outputs.specs.Sequels.{bytes_to_end}
use Rattle.lrc_outputs.proofs.begin.bytes_to_end.Given as goal

abbrev pub invariant-loop-behind : goal.invariant-loop-behind
invariant-loop-behind l = record {
  sum : l.bytes + bytes_to_end (lines_of l.rest) ≡ bytes_to_end (lines_of l.text);
  room : l.bytes + length l.rest ≡ length l.text;
}

abbrev pub decreases-loop-behind : goal.decreases-loop-behind
decreases-loop-behind l = length l.rest
