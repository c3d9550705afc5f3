use Rattle.lrc_script.proofs.TextLemmas.{bundle_joined}
use Rattle.lrc_script.proofs.laws.bundle_bytes.Goals as goal

pub returns : goal.returns
returns c = bundle_joined
