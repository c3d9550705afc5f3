-- Commands and answers that are none of some.
use Rattle.std.proofs.Common.{◌≡◌, ◌≢◌, ◌⊎◌, inl, inr, false, List, ap, refl, ◌∙◌}
use Rattle.lrc_code.specs.declared.numbers.StripeNo.{StripeNo}
use Rattle.lrc_code.specs.declared.numbers.Fragment.{Fragment}
use Rattle.lrc_code.specs.declared.numbers.SessionNo.{SessionNo}
use Rattle.lrc_topology.specs.declared.NodeInfo.{NodeInfo}
use Rattle.lrc_terms.specs.declared.lease.Lease.{Lease as LeaseRecord}
use Rattle.lrc_rules.specs.declared.kind.Kind.{Kind}
use Rattle.lrc_rules.specs.declared.command.Command.{Command}
use Rattle.lrc_rules.specs.declared.command.Command.TheVariants.{Place, Place6, Lease, Next}
use Rattle.lrc_rules.specs.declared.reply.Reply.TheVariants.{Idle}
use Rattle.lrc_rules.specs.declared.refusal.Refusal.{Refusal}
use Rattle.lrc_rules.specs.declared.entry.Entry.{Entry}
use Rattle.lrc_rules.specs.States.{State}
use Rattle.lrc_rules.specs.Changes.{grants_lease, changed_by}
use Rattle.lrc_rules.specs.Steps.{step}
use Rattle.lrc_rules.proofs.StepLemmas.{step-changed, refused-keeps}
use Rattle.lrc_answers.specs.declared.answer.Answer.{Answer}
use Rattle.lrc_answers.specs.declared.answer.Answer.TheVariants as answer
use Rattle.lrc_answers.specs.Answers.{told, is_place}

-- a command that is neither of the two that place a stripe
pub not-place : (c : Command) → ((s : StripeNo) → c ≢ Place s) → ((s : StripeNo) → c ≢ Place6 s) → is_place c ≡ false
not-place (Place s) wide narrow = absurd (wide s refl)
not-place (Place6 s) wide narrow = absurd (narrow s refl)
not-place _ wide narrow = refl

-- ---- answers that grant no lease

next-other : (a : Answer) → ((l : LeaseRecord) (k : Kind) → a ≢ answer.Granted l k) → grants_lease Next (told a) ≡ false
next-other (answer.Granted l k) other = absurd (other l k refl)
next-other (answer.Placed seats) other = refl
next-other (answer.Placed6 seats) other = refl
next-other answer.Dropped other = refl
next-other answer.Idle other = refl
next-other answer.Ended other = refl
next-other answer.Changed other = refl
next-other (answer.Refused refusal) other = refl
next-other (answer.Ticked clock ended) other = refl

lease-other : (s : StripeNo) (f : Fragment) (a : Answer) → ((l : LeaseRecord) (k : Kind) → a ≢ answer.Granted l k) → grants_lease (Lease s f) (told a) ≡ false
lease-other s f (answer.Granted l k) other = absurd (other l k refl)
lease-other s f _ other = refl

pub other-answer : (c : Command) (a : Answer) → ((l : LeaseRecord) (k : Kind) → a ≢ answer.Granted l k) → grants_lease c (told a) ≡ false
other-answer Next a other = next-other a other
other-answer (Lease s f) a other = lease-other s f a other
other-answer _ a other = refl

-- ---- answers that change nothing

idle-left : (st : State) (c : Command) → changed_by st c Idle ≡ st
idle-left st (Place s) = refl
idle-left st _ = refl

idle-keeps : (nodes : List NodeInfo) (past : List Entry) (st : State) (session : SessionNo) (c : Command) → (step nodes past st session c).0 ≡ Idle
    → (step nodes past st session c).1 ≡ st
idle-keeps nodes past st session c told = step-changed nodes past st session c ∙ ap (changed_by st c) told ∙ idle-left st c

-- a command that is idle or refused leaves the state as it was
pub unchanged-keeps : (nodes : List NodeInfo) (past : List Entry) (st : State) (session : SessionNo) (c : Command) (a : Answer)
    → (a ≡ answer.Idle) ⊎ ((r : Refusal) × (a ≡ answer.Refused r)) → (step nodes past st session c).0 ≡ told a → (step nodes past st session c).1 ≡ st
unchanged-keeps nodes past st session c a (inl is) reply = idle-keeps nodes past st session c (reply ∙ ap told is)
unchanged-keeps nodes past st session c a (inr is) reply = refused-keeps nodes past st session c is.0 (reply ∙ ap told is.1)
