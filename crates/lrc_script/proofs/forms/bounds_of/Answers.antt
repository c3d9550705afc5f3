use Rattle.lrc_script.proofs.TableLemmas.{narrow}
use Rattle.lrc_script.proofs.forms.bounds_of.Goals as goal

pub returns-clause-narrow : goal.returns-clause-narrow
returns-clause-narrow c = narrow c.bounds_in.result c.args.word.now c.bounds_in.ensures.some
