use Rattle.lrc_rules.proofs.StayingLemmas.{stripe-stays-by}
use Rattle.lrc_rules.proofs.laws.histories.stripes_end_by_drop_alone.Goals as goal

pub returns : goal.returns
returns c = λ nodes past st session command s there other. stripe-stays-by st s there nodes past session command other
