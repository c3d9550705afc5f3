use Rattle.lrc_rules.proofs.EarnedLemmas.{earned-since}
use Rattle.lrc_images.proofs.laws.bases.live_leases_were_granted_from_any_base.Goals as goal

pub returns : goal.returns
returns c = λ nodes base history l legal here. earned-since nodes base history legal l here
