use Rattle.std.proofs.Common.{◌≤◌, rules, arith}
use Rattle.lrc_embed.proofs.LookLemmas.{look_by}
use Rattle.lrc_embed.proofs.exports.looks.lrc_embed_missing.Goals as goal

pub returns : goal.returns
returns c = look_by (λ (out : 4096 ≤ c.args.stripe). omega (arith, out, c.in-Some.stripe.in_range, c.in-Some.ensures.value))
    (λ b found is. (c.in-Some.stripe, c.in-Some.ensures.value, search rules)) c.look.ensures
