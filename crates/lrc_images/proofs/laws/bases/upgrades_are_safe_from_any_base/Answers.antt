use Rattle.lrc_rules.specs.Histories.{state_from}
use Rattle.lrc_rules.proofs.SafeUpgradeLemmas.{whole-safe, whole-left}
use Rattle.lrc_images.proofs.BaseLemmas.{based-good}
use Rattle.lrc_images.proofs.laws.bases.upgrades_are_safe_from_any_base.Goals as goal

pub returns-clause-whole : goal.returns-clause-whole
returns-clause-whole c =
    λ nodes base history session u s known is legal whole. whole-safe nodes (state_from nodes base history) u s
    (based-good nodes base history is known legal).seated whole

pub returns-clause-margin : goal.returns-clause-margin
returns-clause-margin c =
    λ nodes base history session u s known is legal whole told. whole-left nodes (state_from nodes base history) u s
    (based-good nodes base history is known legal).seated whole told
