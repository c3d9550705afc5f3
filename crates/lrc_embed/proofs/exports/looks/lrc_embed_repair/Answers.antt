use Rattle.std.proofs.Common.{◌≤◌, ◌⊎◌, inl, inr, rules, arith}
use Rattle.lrc_embed.proofs.LookLemmas.{look_by}
use Rattle.lrc_embed.proofs.exports.looks.lrc_embed_repair.Goals as goal

pub returns : goal.returns
returns c = look_by (λ (out : (4096 ≤ c.args.stripe) ⊎ (16 ≤ c.args.fragment)). elim out [
  | inl big ↦ omega (arith, big, c.in-Some.stripe.in_range, c.in-Some.ensures.value)
  | inr big ↦ omega (arith, big, c.in-Some-new.fragment.in_range, c.in-Some-new.ensures.value)
])
    (λ b found is. (c.in-Some.stripe, c.in-Some-new.fragment, c.in-Some.ensures.value, c.in-Some-new.ensures.value, search rules)) c.look.ensures
