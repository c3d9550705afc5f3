use Rattle.std.proofs.Common.{◌∙◌}
use Rattle.lrc_bars.specs.Ties.{bars_of}
use Rattle.lrc_bars.proofs.ClosedLemmas.{closed-seat}
use Rattle.lrc_bars.proofs.PlanLemmas.{table-chosen}
use Rattle.lrc_bars.proofs.laws.tables_give_the_chosen_seat.Goals as goal

pub returns : goal.returns
returns c = λ nodes st s f known seated. closed-seat nodes st (bars_of nodes st s f) known ∙ table-chosen nodes st s f known seated
