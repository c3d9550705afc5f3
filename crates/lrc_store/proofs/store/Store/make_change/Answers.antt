use Rattle.std.proofs.Common.{sym, ap, subst, ◌∙◌}
use Rattle.lrc_rules.specs.States.{State}
use Rattle.lrc_rules.specs.Changes.{changed_by}
use Rattle.lrc_rules.proofs.StepLemmas.{step-changed}
use Rattle.lrc_answers.proofs.AnswerLemmas.{other-answer}
use Rattle.lrc_store.specs.Stores.{IsOf}
use Rattle.lrc_store.proofs.store.Store.make_change.Goals as goal

pub change_by-requires : goal.change_by-requires
change_by-requires g c =
    let told = c.requires.1.0 in
    (c.requires.0, (record { past = told.0; session = told.1; told = told.2 }, (other-answer c.args.command.now c.args.answer.now c.requires.1.1.0, c.requires.1.1.1)))

-- the command and the reply determine the state after it
pub returns-clause-kept : goal.returns-clause-kept
returns-clause-kept g c = λ past session told.
    let nodes = c.args.self.now.topology in
    let command = c.args.command.now in
    subst (λ (st : State). IsOf st c.change_by.new.self) (sym (step-changed nodes past g.st session command ∙ ap (changed_by g.st command) told)) c.change_by.ensures.kept
