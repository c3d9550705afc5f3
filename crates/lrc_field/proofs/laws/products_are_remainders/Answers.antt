use Rattle.lrc_field.proofs.FieldLemmas.{times_remainder}
use Rattle.lrc_field.proofs.laws.products_are_remainders.Goals as goal

pub returns : goal.returns
returns c = times_remainder
