use Rattle.lrc_outputs.proofs.CheckLemmas.{counted_commands}
use Rattle.lrc_outputs.proofs.laws.counted_commands.Goals as goal

pub returns : goal.returns
returns c = counted_commands
