-- When Abandon and Revoke get each reply, and what is left after them.
use Rattle.std.proofs.Common.{[], ◌≡◌, ◌≢◌, Bool, true, false, not, List, Option, Some, None, ℕ, refl, sym, ap, ◌∙◌, subst}
use Rattle.lrc_code.specs.declared.numbers.StripeNo.{StripeNo}
use Rattle.lrc_code.specs.declared.numbers.SessionNo.{SessionNo}
use Rattle.lrc_code.specs.declared.numbers.Fragment.{Fragment}
use Rattle.lrc_topology.specs.declared.NodeInfo.{NodeInfo}
use Rattle.lrc_terms.specs.declared.lease.Lease.{Lease as LeaseRecord}
use Rattle.lrc_rules.specs.declared.reply.Reply.{Reply}
use Rattle.lrc_rules.specs.declared.reply.Reply.TheVariants.{Ended, Refused}
use Rattle.lrc_rules.specs.declared.refusal.Refusal.TheVariants as refusal
use Rattle.lrc_rules.specs.Outcomes.{refuse_if}
use Rattle.lrc_rules.specs.States.{State, has_stripe, lease_of}
use Rattle.lrc_rules.specs.Leases.{without_lease, at_epoch, is_held_by, abandon_answer, abandon_outcome, revoke_outcome}
use Rattle.lrc_rules.specs.declared.command.Command.TheVariants.{Abandon, Revoke}
use Rattle.lrc_rules.specs.Changes.{changed_by}
use Rattle.lrc_rules.specs.Reporting.{IsReported}
use Rattle.lrc_rules.specs.Endings.{IsWithoutLease}
use Rattle.lrc_rules.proofs.LeaseStepLemmas.{at_epoch-some}
use Rattle.lrc_rules.proofs.LeaseLawLemmas.{none-at, ended-keeps}
use Rattle.lrc_rules.proofs.StepLemmas.{abandon-changed, revoke-changed}
use Rattle.lrc_rules.proofs.ReportedLemmas.{held-session, session-held, not-held, held-not, at-own, at-none}
use Rattle.lrc_rules.proofs.MovedLemmas.{none-left}

-- ---- Abandon

module _ (st : State) (session : SessionNo) (s : StripeNo) (f : Fragment) (e : ℕ) where
  -- the session holds the live lease with this epoch
  abbrev pub IsHeld : Type 0
  IsHeld = (l : LeaseRecord) × IsReported st s f e l × (l.holder ≡ session)

  abbrev pub IsStale : Type 0
  IsStale = (has_stripe st s ≡ true) × ((l : LeaseRecord) → lease_of st s f ≡ Some l → l.epoch ≢ e)

  abbrev pub IsOthers : SessionNo → Type 0
  IsOthers x = (l : LeaseRecord) × IsReported st s f e l × (l.holder ≡ x) × (x ≢ session)

  -- what each reply to Abandon means
  abbrev pub Says : Reply → Type 0
  Says Ended = IsHeld
  Says (Refused refusal.UnknownStripe) = has_stripe st s ≡ false
  Says (Refused refusal.Stale) = IsStale
  Says (Refused (refusal.NotHolder x)) = IsOthers x
  Says _ = ⊥

  by-holder : (l : LeaseRecord) → IsReported st s f e l → (b : Bool) → is_held_by session l ≡ b
      → Says (refuse_if (not b) (refusal.NotHolder l.holder) st (Ended, without_lease st s f)).0
  by-holder l own true is = (l, own, held-session session l is)
  by-holder l own false is = (l, own, refl, not-held session l is)

  by-lease : has_stripe st s ≡ true → (o : Option LeaseRecord) → at_epoch e (lease_of st s f) ≡ o → Says (abandon_answer st session s f o).0
  by-lease there None is = (there, at-none e (lease_of st s f) is)
  by-lease there (Some l) is =
      let live = at_epoch-some e (lease_of st s f) l is in
      by-holder l (record { there = there; live = live.0; epoch = live.1 }) (is_held_by session l) refl

  by-stripe : (b : Bool) → has_stripe st s ≡ b
      → Says (refuse_if (not b) refusal.UnknownStripe st (abandon_answer st session s f (at_epoch e (lease_of st s f)))).0
  by-stripe true is = by-lease is (at_epoch e (lease_of st s f)) refl
  by-stripe false is = is

  says : Says (abandon_outcome st session s f e).0
  unfolding abandon_outcome
  says = by-stripe (has_stripe st s) refl

  -- a reply is given only if what it means holds
  pub abandon-told : (r : Reply) → (abandon_outcome st session s f e).0 ≡ r → Says r
  abandon-told r told = subst Says told says

  -- ---- and always if it holds

  reported-at : (l : LeaseRecord) → IsReported st s f e l → at_epoch e (lease_of st s f) ≡ Some l
  reported-at l own = ap (at_epoch e) own.live ∙ at-own e l own.epoch

  pub tell-ended : IsHeld → (abandon_outcome st session s f e).0 ≡ Ended
  unfolding abandon_outcome
  tell-ended (l, own, held) = rw (own.there, reported-at l own, session-held session l held) refl

  pub tell-others : (x : SessionNo) → IsOthers x → (abandon_outcome st session s f e).0 ≡ Refused (refusal.NotHolder x)
  unfolding abandon_outcome
  tell-others x (l, own, whose, other) = rw (own.there, reported-at l own, held-not session l (λ same. other (sym whose ∙ same)), whose) refl

  pub tell-stale : IsStale → (abandon_outcome st session s f e).0 ≡ Refused refusal.Stale
  unfolding abandon_outcome
  tell-stale (there, other) = rw (there, none-at e (lease_of st s f) other) refl

-- ---- what is left after Abandon and Revoke

module _ (nodes : List NodeInfo) (st : State) (session : SessionNo) (s : StripeNo) (f : Fragment) where
  without-left : IsWithoutLease st s f (without_lease st s f)
  without-left = record { none = none-left st s f; others = λ r g apart. ended-keeps st s r f g apart; rest = refl }

  pub abandon-left : (e : ℕ) → (abandon_outcome st session s f e).0 ≡ Ended → IsWithoutLease st s f (abandon_outcome st session s f e).1
  abandon-left e told =
      subst (IsWithoutLease st s f) (sym (abandon-changed nodes [] st session s f e ∙ ap (changed_by st (Abandon s f e)) told)) without-left

  pub revoke-left : (revoke_outcome st s f).0 ≡ Ended → IsWithoutLease st s f (revoke_outcome st s f).1
  revoke-left told = subst (IsWithoutLease st s f) (sym (revoke-changed nodes [] st session s f ∙ ap (changed_by st (Revoke s f)) told)) without-left
