use Rattle.lrc_rules.proofs.OtherUpgradeLemmas.{upgrading-same}
use Rattle.lrc_rules.proofs.laws.upgrades.upgrading_changes_by_these_alone.Goals as goal

pub returns : goal.returns
returns c = upgrading-same
