use Rattle.lrc_images.proofs.CausedRowLemmas.{caused-lease}
use Rattle.lrc_images.proofs.laws.causes.causes_of_leases.Goals as goal

pub returns : goal.returns
returns c = caused-lease
