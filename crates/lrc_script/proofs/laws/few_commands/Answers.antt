use Rattle.lrc_script.proofs.SizeLemmas.{few_in_bundle}
use Rattle.lrc_script.proofs.laws.few_commands.Goals as goal

pub returns : goal.returns
returns c = few_in_bundle
