use Rattle.std.proofs.Common.{sym, ap, ap₂, subst, ◌∙◌}
use Rattle.lrc_rules.specs.declared.command.Command.{Command}
use Rattle.lrc_answers.specs.declared.answer.Answer.{Answer}
use Rattle.lrc_answers.specs.Answers as answers
use Rattle.lrc_rules.specs.States.{State}
use Rattle.lrc_rules.specs.Steps.{step}
use Rattle.lrc_rules.specs.Changes.{changed_by}
use Rattle.lrc_store.specs.Stores.{IsOf}
use Rattle.lrc_store.proofs.LeaseToldLemmas.{done-told}
use Rattle.lrc_store.proofs.DueLemmas.{tick-told}
use Rattle.lrc_rules.proofs.ToldLemmas.{upgrade-told}
use Rattle.lrc_store.proofs.store.Store.change_by.Goals as goal

pub move_in-requires : goal.move_in-requires
move_in-requires g c =
    let nodes = c.args.self.now.topology in
    let told = c.requires.1.0 in
    let e = sym (ap (λ (command : Command). (step nodes told.past g.st told.session command).0) c.in-Done-Ended.is-0) ∙ told.told ∙ ap answers.told c.in-Done-Ended.is-1 in
    (c.requires.0, done-told nodes g.st told.session c.in-Done-Ended.stripe c.in-Done-Ended.fragment c.in-Done-Ended.field-2-0 e)

pub returns-in-Abandon-Ended-clause-kept : goal.returns-in-Abandon-Ended-clause-kept
returns-in-Abandon-Ended-clause-kept g c =
    subst (λ (st : State). IsOf st c.end_lease.new.self) (sym (ap₂ (λ (command : Command) (a : Answer). changed_by g.st command (answers.told a)) c.in-Abandon-Ended.is-0 c.in-Abandon-Ended.is-1))
    (c.end_lease.ensures.kept g.st c.requires.0)

pub returns-in-Revoke-Ended-clause-kept : goal.returns-in-Revoke-Ended-clause-kept
returns-in-Revoke-Ended-clause-kept g c =
    subst (λ (st : State). IsOf st c.end_lease-in-Revoke-Ended.new.self) (sym (ap₂ (λ (command : Command) (a : Answer). changed_by g.st command (answers.told a)) c.in-Revoke-Ended.is-0 c.in-Revoke-Ended.is-1))
    (c.end_lease-in-Revoke-Ended.ensures.kept g.st c.requires.0)

pub upgrade-requires : goal.upgrade-requires
upgrade-requires g c =
    let nodes = c.args.self.now.topology in
    let told = c.requires.1.0 in
    let e = sym (ap (λ (command : Command). (step nodes told.past g.st told.session command).0) c.in-Upgrade-Changed.is-0) ∙ told.told ∙ ap answers.told c.in-Upgrade-Changed.is-1 in
    c.requires.0.upgrading_is ∙ upgrade-told nodes g.st c.in-Upgrade-Changed.domain e

pub returns-in-Upgrade-Changed-clause-kept : goal.returns-in-Upgrade-Changed-clause-kept
returns-in-Upgrade-Changed-clause-kept g c =
    subst (λ (st : State). IsOf st c.upgrade.new.self) (sym (ap₂ (λ (command : Command) (a : Answer). changed_by g.st command (answers.told a)) c.in-Upgrade-Changed.is-0 c.in-Upgrade-Changed.is-1))
    (c.upgrade.ensures.kept g.st c.requires.0)

pub tick-requires : goal.tick-requires
tick-requires g c =
    let nodes = c.args.self.now.topology in
    let told = c.requires.1.0 in
    let e = sym (ap (λ (command : Command). (step nodes told.past g.st told.session command).0) c.in-Tick-Ticked.is-0) ∙ told.told ∙ ap answers.told c.in-Tick-Ticked.is-1 in
    (c.requires.0, (c.requires.1.1.1, tick-told g.st c.in-Tick-Ticked.clock-1 c.in-Tick-Ticked.ended e))
