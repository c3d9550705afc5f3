use Rattle.std.proofs.Common.{sym, ◌∙◌}
use Rattle.lrc_records.proofs.SameLemmas.{reply-Decides}
use Rattle.lrc_records.proofs.reply.LrcReply.is_of.Goals as goal

pub returns : goal.returns
returns c =
    let same = reply-Decides c.of.result c.args.self.now in
    (λ yes. sym (same.0 (sym c.eq.ensures ∙ yes)) ∙ c.of.ensures, λ is. c.eq.ensures ∙ same.1 (c.of.ensures ∙ sym is))
