use Rattle.lrc_rules.proofs.EndingLemmas.{lease-lasts-by}
use Rattle.lrc_rules.proofs.laws.histories.leases_end_by_these_alone.Goals as goal

pub returns : goal.returns
returns c = λ nodes past st session command s f l live other. lease-lasts-by st s f l live nodes past session command other
