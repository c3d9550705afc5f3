use Rattle.lrc_script.proofs.CauseLemmas.{cause_of-good}
use Rattle.lrc_script.proofs.laws.good_lines.Goals as goal

pub returns : goal.returns
returns c = cause_of-good
