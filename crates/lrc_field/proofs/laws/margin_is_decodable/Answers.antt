use Rattle.lrc_field.proofs.MarginDecodingLemmas.{margin_decodable}
use Rattle.lrc_field.proofs.TooManyLemmas.{margin_one_more}
use Rattle.lrc_field.proofs.laws.margin_is_decodable.Goals as goal

pub returns : goal.returns
returns c = record { margin = margin_decodable; one_more = margin_one_more }
