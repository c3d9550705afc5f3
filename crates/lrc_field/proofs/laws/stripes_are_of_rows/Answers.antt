use Rattle.lrc_field.proofs.EncodingLemmas.{of_rows}
use Rattle.lrc_field.proofs.laws.stripes_are_of_rows.Goals as goal

pub returns : goal.returns
returns c = of_rows
