use Rattle.std.proofs.Common.{◌∙◌}
use Rattle.lrc_rules.specs.States.{taken_seats}
use Rattle.lrc_bars.specs.Ties.{bars_of, with_homes}
use Rattle.lrc_bars.proofs.ClosedLemmas.{closed-seat}
use Rattle.lrc_bars.proofs.TieLemmas.{standing-slots}
use Rattle.lrc_bars.proofs.PlanLemmas.{planned-chosen}
use Rattle.lrc_bars.proofs.laws.planned_homes_only_bar_domains.Goals as goal

pub returns : goal.returns
returns c =
    λ nodes st planned s f known seated beside. closed-seat nodes st (bars_of nodes (with_homes st planned) s f) known
    ∙ planned-chosen nodes st planned s f beside known seated.single (standing-slots nodes st (taken_seats st) seated.standing)
