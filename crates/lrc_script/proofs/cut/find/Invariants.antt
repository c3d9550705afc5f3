use Rattle.std.proofs.Common.{◌≤◌, ◌-◌, length}
use Rattle.memchr.specs.Find.{is_byte, Passes, Nowhere}
use Rattle.lrc_script.proofs.cut.find.Given as goal

abbrev pub invariant-loop-at : goal.invariant-loop-at
invariant-loop-at l = record {
  within : l.at ≤ length l.text;
  before : Nowhere (Passes (is_byte l.byte) l.text) 0 l.at;
}

abbrev pub decreases-loop-at : goal.decreases-loop-at
decreases-loop-at l = length l.text - l.at
