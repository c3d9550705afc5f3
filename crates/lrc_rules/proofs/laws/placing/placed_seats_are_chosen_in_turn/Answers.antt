use Rattle.std.proofs.Common.{◌≡◌, ◌↔◌, sym, subst}
use Rattle.std.specs.Bool.{IsFalse}
use Rattle.lrc_code.specs.Codes.{fragments}
use Rattle.lrc_rules.specs.Outcomes.{Outcome}
use Rattle.lrc_rules.specs.States.{has_stripe}
use Rattle.lrc_rules.specs.Steps.{with_stripe, placed_reply}
use Rattle.lrc_rules.specs.Choices.{AreChosen}
use Rattle.lrc_rules.proofs.StepLemmas.{place-step}
use Rattle.lrc_rules.proofs.ToldLemmas.{place-told}
use Rattle.lrc_rules.proofs.LawLemmas.{chosen-told}
use Rattle.lrc_rules.proofs.laws.placing.placed_seats_are_chosen_in_turn.Goals as goal

pub returns : goal.returns
returns c = λ nodes past st session code s seats.
    subst (λ (o : Outcome). (o.0 ≡ placed_reply code seats) ↔ (IsFalse (has_stripe st s) × AreChosen nodes (with_stripe st code s) s (fragments code) seats))
    (sym (place-step nodes past st session code s))
    (λ e. let told = place-told nodes st code s seats e in (told.absent, told.chosen_are), λ h. chosen-told nodes st code s seats h.0 h.1)
