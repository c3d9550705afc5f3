use Rattle.std.proofs.Common.{◌≡◌, ap, subst, ◌∙◌}
use Rattle.lrc_rules.specs.declared.command.Command.{Command}
use Rattle.lrc_rules.specs.declared.reply.Reply.TheVariants.{Idle}
use Rattle.lrc_rules.specs.Steps.{step as step_of}
use Rattle.lrc_rules.proofs.MostUrgentLemmas.{idle-none}
use Rattle.lrc_answers.specs.Answers.{told}
use Rattle.lrc_book.proofs.step.cursor_after.Goals as goal

pub returns-in-Idle : goal.returns-in-Idle
returns-in-Idle c = λ nodes past st is ahead.
    let made = c.made.inside in
    let step = rw (← c.made.view_is) at is in
    idle-none nodes past st made.session (subst (λ (command : Command). (step_of nodes past st made.session command).0 ≡ Idle) c.in-Next.is (step ∙ ap told c.in-Idle.is))
