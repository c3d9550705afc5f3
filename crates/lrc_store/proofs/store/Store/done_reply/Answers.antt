use Rattle.std.proofs.Common.{Bool, true, false, sym, ap, ◌∙◌}
use Rattle.lrc_code.specs.declared.numbers.NodeNo.{NodeNo}
use Rattle.lrc_nodes.specs.States.{online_in}
use Rattle.lrc_stripes.specs.Stored.{Stored}
use Rattle.lrc_store.proofs.NodeStateLemmas.{online-kept}
use Rattle.lrc_store.proofs.LeaseReplyLemmas.{done-refused, done-held}
use Rattle.lrc_store.proofs.store.Store.done_reply.Goals as goal

pub returns-in-Err : goal.returns-in-Err
returns-in-Err c = λ st kept.
    sym (done-refused st c.args.session c.args.stripe c.args.fragment c.args.epoch c.args.self.now.topology c.in-Err.refusal
    (sym (c.reported_lease.ensures st kept) ∙ c.in-Err.is))

pub returns-then-not-is_online : goal.returns-then-not-is_online
returns-then-not-is_online c = λ st kept.
    let l = c.in-Ok.lease in
    let online = sym (c.is_online.ensures ∙ (ap (λ (t : Stored). online_in t.nodes l.target.node) kept.stripes_is ∙ ap (λ (online : NodeNo → Bool). online l.target.node) (online-kept c.args.self.now.topology st))) ∙ c.if-not-is_online.true in
    sym (done-held st c.args.session c.args.stripe c.args.fragment c.args.epoch c.args.self.now.topology l
    (sym (c.reported_lease.ensures st kept) ∙ c.in-Ok.is) false online)

pub returns-else-not-is_online : goal.returns-else-not-is_online
returns-else-not-is_online c = λ st kept.
    let l = c.in-Ok.lease in
    let online = sym (c.is_online.ensures ∙ (ap (λ (t : Stored). online_in t.nodes l.target.node) kept.stripes_is ∙ ap (λ (online : NodeNo → Bool). online l.target.node) (online-kept c.args.self.now.topology st))) ∙ c.if-not-is_online.false in
    sym (done-held st c.args.session c.args.stripe c.args.fragment c.args.epoch c.args.self.now.topology l
    (sym (c.reported_lease.ensures st kept) ∙ c.in-Ok.is) true online)
