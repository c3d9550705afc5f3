use Rattle.std.proofs.Common.{Option, option_map, sym, ap, ◌∙◌}
use Rattle.lrc_terms.specs.Stripes.{StripeFragment}
use Rattle.lrc_store.specs.declared.repair.Repair.{Repair}
use Rattle.lrc_rules.specs.Leases.{next_answer, next_outcome}
use Rattle.lrc_store.specs.Repairing.{fragment_of}
use Rattle.lrc_store.proofs.NextRepairLemmas.{repair-granted}
use Rattle.lrc_store.proofs.store.Store.next_reply_with_work.Goals as goal

pub returns-in-Some : goal.returns-in-Some
unfolding next_outcome
returns-in-Some c = λ st past kept counted ahead.
    let nodes = c.args.self.now.topology in
    let found = sym (ap (λ (o : Option Repair). option_map fragment_of o) c.in-Some.is) ∙ c.next_repair.ensures.first st kept ahead in
    c.granted_to.ensures past st counted kept.clock_is
    ∙ sym (repair-granted nodes past st c.args.session c.in-Some.repair (c.in-Some.ensures.repair st kept))
    ∙ ap (λ (o : Option StripeFragment). (next_answer nodes past st c.args.session o).0) found

pub returns-in-None : goal.returns-in-None
unfolding next_outcome
returns-in-None c = λ st past kept counted ahead.
    let none = sym (ap (λ (o : Option Repair). option_map fragment_of o) c.in-None.is) ∙ c.next_repair.ensures.first st kept ahead in
    ap (λ (o : Option StripeFragment). (next_answer c.args.self.now.topology past st c.args.session o).0) none
