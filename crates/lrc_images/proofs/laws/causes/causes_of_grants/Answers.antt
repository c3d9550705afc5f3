use Rattle.lrc_images.proofs.CausedRowLemmas.{caused-grant}
use Rattle.lrc_images.proofs.laws.causes.causes_of_grants.Goals as goal

pub returns : goal.returns
returns c = caused-grant
