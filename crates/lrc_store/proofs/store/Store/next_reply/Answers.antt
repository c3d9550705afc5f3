use Rattle.std.proofs.Common.{◌≡◌, true, false, Option, sym, ap, subst, ◌∙◌}
use Rattle.lrc_stripes.specs.Stored.{Stored, has_work}
use Rattle.lrc_terms.specs.Stripes.{StripeFragment}
use Rattle.lrc_rules.specs.Leases.{next_answer, next_outcome}
use Rattle.lrc_store.proofs.store.Store.next_reply.Goals as goal
use Rattle.lrc_store.proofs.WorkLemmas.{idle-next}
use Rattle.lrc_store.specs.Repairing.{IsRepairCursor}
use Rattle.lrc_rules.proofs.MostUrgentLemmas.{none-idle}

pub returns-then-not-has_work : goal.returns-then-not-has_work
unfolding next_outcome
returns-then-not-has_work c = λ st past kept counted ahead.
    let nodes = c.args.self.now.topology in
    let none = idle-next nodes st
    (λ s has.
    (let some : c.has_work.result ≡ true = c.has_work.ensures.1 (s, subst (λ (t : Stored). has_work t s ≡ true) (sym kept.stripes_is) has) in
    let both : true ≡ false = sym some ∙ c.if-not-has_work.true in cc)) in
    ap (λ (o : Option StripeFragment). (next_answer nodes past st c.args.session o).0) none

pub returns-in-End : goal.returns-in-End
returns-in-End c = λ st past kept counted ahead.
    let nodes = c.args.self.now.topology in
    sym (none-idle nodes past st c.args.session (subst (IsRepairCursor nodes st) c.in-End.is ahead))
