use Rattle.lrc_outputs.proofs.CheckAnswerLemmas.{refused_alike}
use Rattle.lrc_outputs.proofs.laws.checks_refuse_as_runs.Goals as goal

pub returns : goal.returns
returns c = λ bundle text status none refused. refused_alike bundle text status refused none
