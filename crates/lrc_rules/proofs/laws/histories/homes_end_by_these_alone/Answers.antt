use Rattle.lrc_rules.proofs.StayingLemmas.{home-stays-by}
use Rattle.lrc_rules.proofs.laws.histories.homes_end_by_these_alone.Goals as goal

pub returns : goal.returns
returns c = λ nodes past st session command s f seat own other. home-stays-by st s f seat own nodes past session command other
