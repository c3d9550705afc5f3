use Rattle.lrc_embed.proofs.TextLemmas.{one_text}
use Rattle.lrc_embed.proofs.laws.a_record_has_its_text.Goals as goal

pub returns : goal.returns
returns c = one_text
