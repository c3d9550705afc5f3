use Rattle.std.proofs.Common.{Some}
use Rattle.lrc_image_text.specs.Fronts.{IsRowRead}
use Rattle.lrc_image_text.proofs.LineLemmas.{IsReadSoFar-row, row_smaller}
use Rattle.lrc_image_text.proofs.read.read_rows.Goals as goal

pub loop-rows-smaller : goal.loop-rows-smaller
loop-rows-smaller g c =
    let read : IsRowRead g.R.Row.line c.loop-rows.left.now c.loop-rows.rows.items c.read_row.new.rows.items (Some c.in-Some.rest) = rw c.in-Some.is at c.in_ok-rest.ensures.row in
    row_smaller g.R.Row.line c.loop-rows.left.now c.loop-rows.rows.items c.read_row.new.rows.items c.in-Some.rest read

pub loop-rows-preserved : goal.loop-rows-preserved
loop-rows-preserved g c =
    let read : IsRowRead g.R.Row.line c.loop-rows.left.now c.loop-rows.rows.items c.read_row.new.rows.items (Some c.in-Some.rest) = rw c.in-Some.is at c.in_ok-rest.ensures.row in
    IsReadSoFar-row g.R.Row.line c.args.text.now c.loop-rows.left.now c.loop-rows.rows.items c.read_row.new.rows.items c.in-Some.rest c.loop-rows.invariant read
