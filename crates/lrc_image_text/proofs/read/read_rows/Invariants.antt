use Rattle.std.proofs.Common.{length}
use Rattle.lrc_image_text.proofs.LineLemmas.{IsReadSoFar}
use Rattle.lrc_image_text.proofs.read.read_rows.Given as goal

abbrev pub invariant-loop-rows : goal.invariant-loop-rows
invariant-loop-rows g l = IsReadSoFar g.R.Row.line l.text l.rows.items l.left

abbrev pub decreases-loop-rows : goal.decreases-loop-rows
decreases-loop-rows g l = length l.left
