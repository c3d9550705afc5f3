use Rattle.std.proofs.Common.{inl, inr}
use Rattle.std.proofs.lemmas.Bool.{cases_Bool}
use Rattle.lrc_rules.specs.Leases.{is_tick}
use Rattle.lrc_rules.proofs.ClockLemmas.{tick-is, other-clock, ticks-counted}
use Rattle.lrc_rules.proofs.TermLemmas.{granted-fresh, live-in-term}
use Rattle.lrc_rules.proofs.laws.leases.leases_last_three_ticks.Goals as goal

pub returns-clause-clock : goal.returns-clause-clock
returns-clause-clock c = λ nodes history. ticks-counted nodes history

pub returns-clause-others : goal.returns-clause-others
returns-clause-others c = λ nodes past st session command other. elim (cases_Bool (is_tick command)) [
  | inl hit ↦ absurd (other (tick-is command hit))
  | inr miss ↦ other-clock nodes past st session command miss
]

pub returns-clause-granted : goal.returns-clause-granted
returns-clause-granted c = λ nodes past st session command l k told. (granted-fresh nodes past st session command l k told).expiry

pub returns-clause-live : goal.returns-clause-live
returns-clause-live c = λ nodes history e es l k known legal told alone. live-in-term nodes known history e es legal l k told alone
