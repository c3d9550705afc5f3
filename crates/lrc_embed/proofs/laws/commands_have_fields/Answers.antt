use Rattle.lrc_embed.proofs.FormLemmas.{has_fields}
use Rattle.lrc_embed.proofs.laws.commands_have_fields.Goals as goal

pub returns : goal.returns
returns c = has_fields
