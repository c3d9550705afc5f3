use Rattle.std.proofs.Common.{◌≡◌, sym, subst}
use Rattle.lrc_rules.specs.Outcomes.{Outcome}
use Rattle.lrc_rules.specs.States.{homes_shown}
use Rattle.lrc_rules.proofs.StepLemmas.{place-step}
use Rattle.lrc_rules.proofs.PlacedHomesLemmas.{told-wide, told-narrow, place-others}
use Rattle.lrc_rules.proofs.laws.placing.placed_seats_are_the_homes.Goals as goal

pub returns-clause-told : goal.returns-clause-told
returns-clause-told c = λ nodes past st session s seats seated told. told-wide nodes st s seats seated told

pub returns-clause-told6 : goal.returns-clause-told6
returns-clause-told6 c = λ nodes past st session s seats seated told. told-narrow nodes st s seats seated told

pub returns-clause-others : goal.returns-clause-others
returns-clause-others c = λ nodes past st session code s r other.
    subst (λ (o : Outcome). homes_shown o.1 r ≡ homes_shown st r) (sym (place-step nodes past st session code s)) (place-others nodes st code s r other)
