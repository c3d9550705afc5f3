use Rattle.lrc_rules.specs.Histories.{state_from}
use Rattle.lrc_rules.proofs.LeaseLawLemmas.{done-stale, abandon-stale}
use Rattle.std.proofs.Common.{◌++◌}
use Rattle.lrc_images.proofs.BaseLemmas.{based-good}
use Rattle.lrc_images.proofs.laws.bases.stale_epochs_are_refused_from_any_base.Goals as goal

pub returns-clause-done : goal.returns-clause-done
returns-clause-done c =
    λ nodes base history session s f e known is legal other. done-stale nodes (base.past ++ history) (state_from nodes base history) session s f e
    (based-good nodes base history is known legal) other

pub returns-clause-abandon : goal.returns-clause-abandon
returns-clause-abandon c =
    λ nodes base history session s f e known is legal other. abandon-stale nodes (base.past ++ history) (state_from nodes base history) session s f e
    (based-good nodes base history is known legal) other
