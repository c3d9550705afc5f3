use Rattle.lrc_rules.specs.declared.reply.Reply.TheVariants.{Changed, Refused}
use Rattle.lrc_rules.specs.declared.refusal.Refusal.TheVariants as refusal
use Rattle.lrc_rules.specs.Histories.{state_after}
use Rattle.lrc_rules.proofs.GoodLemmas.{state_after-good}
use Rattle.lrc_rules.proofs.SafeUpgradeLemmas.{lost-words, words-lost, none-words, words-none, upgrade-told, tell-lost, tell-upgrades, upgrade-keeps, whole-safe, whole-left}
use Rattle.lrc_rules.proofs.laws.upgrades.upgrades_are_safe.Goals as goal

pub returns-clause-lost : goal.returns-clause-lost
returns-clause-lost c = λ nodes past st session u s. (
  λ told.
      let says = upgrade-told nodes st u (Refused (refusal.WouldLose s)) told in
      let words = lost-words nodes st u s says.2 in (says.0, says.1, words.0, words.1),
  λ so. tell-lost nodes st u s (so.0, so.1, words-lost nodes st u s so.2 so.3),
)

pub returns-clause-done : goal.returns-clause-done
returns-clause-done c = λ nodes past st session u. (
  λ told. let says = upgrade-told nodes st u Changed told in (says.0, says.1, none-words nodes st u says.2),
  λ so. tell-upgrades nodes st u (so.0, so.1, words-none nodes st u so.2),
)

pub returns-clause-recoverable : goal.returns-clause-recoverable
returns-clause-recoverable c = λ nodes past st session u s told there safe. upgrade-keeps nodes st u s told there safe

pub returns-clause-whole : goal.returns-clause-whole
returns-clause-whole c =
    λ nodes history session u s known legal whole. whole-safe nodes (state_after nodes history) u s
    (state_after-good nodes known history legal).seated whole

pub returns-clause-margin : goal.returns-clause-margin
returns-clause-margin c =
    λ nodes history session u s known legal whole told. whole-left nodes (state_after nodes history) u s
    (state_after-good nodes known history legal).seated whole told
