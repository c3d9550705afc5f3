use Rattle.std.proofs.Common.{inl, inr, arith}
use Rattle.lrc_embed.proofs.exports.lines.lrc_embed_reply_text.Goals as goal

pub returns-in-Ok-clause-range : goal.returns-in-Ok-clause-range
returns-in-Ok-clause-range c = (
  λ is. elim c.put_text.ensures.statuses [ inl done ↦ absurd (omega arith) | inr short ↦ absurd (omega arith) ],
  λ none. absurd (none c.in-Some.read c.in-Some.ensures.some.0 c.in-Some.ensures.some.1),
)
