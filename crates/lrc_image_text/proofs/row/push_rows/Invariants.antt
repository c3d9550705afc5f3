use Rattle.std.proofs.Common.{◌≡◌, ◌++◌, map, take}
use Rattle.lrc_image_text.specs.Lines.{lines_text}
use Rattle.lrc_image_text.proofs.row.push_rows.Given as goal

abbrev pub invariant-loop-row : goal.invariant-loop-row
invariant-loop-row g l = l.out.items ≡ l.initial.out.items ++ lines_text (map g.R.Row.line (take l.row-index l.rows))
