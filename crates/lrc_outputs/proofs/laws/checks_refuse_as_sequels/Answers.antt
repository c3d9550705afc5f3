use Rattle.lrc_outputs.proofs.CheckAnswerLemmas.{refused_alike_behind}
use Rattle.lrc_outputs.proofs.laws.checks_refuse_as_sequels.Goals as goal

pub returns : goal.returns
returns c = λ sequel text status some refused. refused_alike_behind sequel text status refused some
