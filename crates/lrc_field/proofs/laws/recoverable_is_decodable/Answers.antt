use Rattle.lrc_field.proofs.MarginDecodingLemmas.{recoverable_decodable}
use Rattle.lrc_field.proofs.UndecodableLemmas.{two_stripes}
use Rattle.lrc_field.proofs.laws.recoverable_is_decodable.Goals as goal

pub returns : goal.returns
returns c = record { recoverable = recoverable_decodable; two_stripes = two_stripes }
