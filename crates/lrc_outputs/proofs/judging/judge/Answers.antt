use Rattle.lrc_openings.proofs.ResultLemmas.{IfErr-map}
use Rattle.lrc_outputs.proofs.JudgedLemmas.{refused_behind_none}
use Rattle.lrc_outputs.proofs.judging.judge.Goals as goal

pub returns-clause-refused : goal.returns-clause-refused
returns-clause-refused c = IfErr-map c.judge_behind.result _ _ (refused_behind_none c.args.bundle.now) c.judge_behind.ensures.refused
