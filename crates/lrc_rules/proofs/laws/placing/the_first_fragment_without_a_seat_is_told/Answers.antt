use Rattle.std.proofs.Common.{◌≡◌, ◌↔◌, sym, subst}
use Rattle.std.specs.Bool.{IsFalse}
use Rattle.lrc_code.specs.Codes.{fragments}
use Rattle.lrc_rules.specs.declared.reply.Reply.TheVariants.{Refused}
use Rattle.lrc_rules.specs.declared.refusal.Refusal.TheVariants as refusal
use Rattle.lrc_rules.specs.Outcomes.{Outcome}
use Rattle.lrc_rules.specs.States.{has_stripe}
use Rattle.lrc_rules.specs.Steps.{with_stripe}
use Rattle.lrc_rules.specs.Choices.{IsFirstWithout}
use Rattle.lrc_rules.proofs.StepLemmas.{place-step}
use Rattle.lrc_rules.proofs.LawLemmas.{told-none, none-told}
use Rattle.lrc_rules.proofs.laws.placing.the_first_fragment_without_a_seat_is_told.Goals as goal

pub returns : goal.returns
returns c = λ nodes past st session code s f.
    subst (λ (o : Outcome). (o.0 ≡ Refused (refusal.NoLawfulNode f)) ↔ (IsFalse (has_stripe st s) × IsFirstWithout nodes (with_stripe st code s) s (fragments code) f))
    (sym (place-step nodes past st session code s)) (told-none nodes st code s f, λ h. none-told nodes st code s f h.0 h.1)
