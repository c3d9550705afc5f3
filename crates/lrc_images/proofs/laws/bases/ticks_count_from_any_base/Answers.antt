use Rattle.lrc_rules.proofs.ClockLemmas.{worlds-clock}
use Rattle.lrc_images.proofs.laws.bases.ticks_count_from_any_base.Goals as goal

pub returns : goal.returns
returns c = λ nodes base history. worlds-clock nodes base history
