use Rattle.lrc_script.proofs.JoinLemmas.{bundle_cut, bundle_numbered, bundle_texts}
use Rattle.lrc_script.proofs.laws.bundle_lines.Goals as goal

pub returns-clause-cut : goal.returns-clause-cut
returns-clause-cut c = bundle_cut

pub returns-clause-numbered : goal.returns-clause-numbered
returns-clause-numbered c = bundle_numbered

pub returns-clause-texts : goal.returns-clause-texts
returns-clause-texts c = bundle_texts
