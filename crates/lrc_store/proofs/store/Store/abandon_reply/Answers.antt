use Rattle.std.proofs.Common.{sym, ◌∙◌}
use Rattle.lrc_store.proofs.LeaseReplyLemmas.{abandon-refused, abandon-held}
use Rattle.lrc_store.proofs.store.Store.abandon_reply.Goals as goal

pub returns-in-Err : goal.returns-in-Err
returns-in-Err c = λ st kept.
    sym (abandon-refused st c.args.session c.args.stripe c.args.fragment c.args.epoch c.in-Err.refusal
    (sym (c.reported_lease.ensures st kept) ∙ c.in-Err.is))

pub returns-in-Ok : goal.returns-in-Ok
returns-in-Ok c = λ st kept.
    sym (abandon-held st c.args.session c.args.stripe c.args.fragment c.args.epoch c.in-Ok.field-0
    (sym (c.reported_lease.ensures st kept) ∙ c.in-Ok.is))
