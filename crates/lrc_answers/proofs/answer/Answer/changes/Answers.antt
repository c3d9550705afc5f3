use Rattle.lrc_answers.proofs.AnswerLemmas.{unchanged-keeps}
use Rattle.lrc_answers.proofs.answer.Answer.changes.Goals as goal

pub returns-in-Idle-clause-same : goal.returns-in-Idle-clause-same
returns-in-Idle-clause-same c = λ low nodes past st session command reply. unchanged-keeps nodes past st session command c.args.self.now c.in-Idle.is reply

pub returns-in-Idle-2-clause-same : goal.returns-in-Idle-2-clause-same
returns-in-Idle-2-clause-same c = λ low nodes past st session command reply. unchanged-keeps nodes past st session command c.args.self.now c.in-Idle.is reply
