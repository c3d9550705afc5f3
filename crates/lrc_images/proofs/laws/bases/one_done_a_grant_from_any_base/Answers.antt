use Rattle.lrc_rules.proofs.ReportLemmas.{most-reports}
use Rattle.lrc_images.proofs.laws.bases.one_done_a_grant_from_any_base.Goals as goal

pub returns : goal.returns
returns c = λ nodes base history s f e known is legal. most-reports nodes s f e known base history legal is.good
