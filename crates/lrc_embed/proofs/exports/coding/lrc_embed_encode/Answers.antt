use Rattle.std.proofs.Common.{rules}
use Rattle.lrc_embed.proofs.exports.coding.lrc_embed_encode.Goals as goal

pub returns-in-Err-Length-clause-uneven : goal.returns-in-Err-Length-clause-uneven
returns-in-Err-Length-clause-uneven c = λ _. (c.in-Some.code, c.in-Some.ensures.some, (c.in-Err-Length.field-0-0, search rules))
