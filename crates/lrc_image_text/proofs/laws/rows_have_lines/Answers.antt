use Rattle.lrc_image_text.proofs.RowLineLemmas.{lines_from_row}
use Rattle.lrc_image_text.proofs.laws.rows_have_lines.Goals as goal

pub returns : goal.returns
returns c = lines_from_row
