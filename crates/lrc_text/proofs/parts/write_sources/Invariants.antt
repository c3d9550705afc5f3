use Rattle.std.proofs.Common.{◌≡◌, ◌+◌, ◌*◌, ◌≤◌, ◌++◌, length, drop, decimal, map}
use Rattle.lrc_text.specs.Texts.{spaced_words}
use Rattle.lrc_text.proofs.parts.write_sources.Given as goal

abbrev pub invariant-loop-left : goal.invariant-loop-left
invariant-loop-left l = record {
  left : l.left ≤ length l.sources;
  room : 6 * l.left ≤ l.at;
  used : l.end + 6 * l.left ≤ l.at + 6 * length l.sources;
  within : l.at ≤ l.end;
  written : drop l.at l.text ≡ spaced_words (map (λ f. decimal f.value) (drop l.left l.sources)) ++ drop l.end l.fn.text;
}

abbrev pub decreases-loop-left : goal.decreases-loop-left
decreases-loop-left l = l.left
