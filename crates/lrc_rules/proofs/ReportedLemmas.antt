-- When Done and Abandon get each reply.
use Rattle.std.proofs.Common.{◌≡◌, ◌≢◌, ◌≤◌, Bool, true, false, not, List, Option, Some, None, ℕ, refl, sym, ap, ◌∙◌, subst}
use Rattle.std.specs.Coded.{le_prop}
use Rattle.std.proofs.lemmas.Bool.{eqb-true, eq-eqb, ne_eqb}
use Rattle.lrc_code.specs.declared.numbers.StripeNo.{StripeNo}
use Rattle.lrc_code.specs.declared.numbers.NodeNo.{NodeNo}
use Rattle.lrc_code.specs.declared.numbers.SessionNo.{SessionNo}
use Rattle.lrc_code.specs.declared.numbers.Fragment.{Fragment}
use Rattle.lrc_topology.specs.declared.NodeInfo.{NodeInfo}
use Rattle.lrc_terms.specs.declared.lease.Lease.{Lease as LeaseRecord}
use Rattle.lrc_rules.specs.declared.reply.Reply.{Reply}
use Rattle.lrc_rules.specs.declared.reply.Reply.TheVariants.{Ended, Refused}
use Rattle.lrc_rules.specs.declared.refusal.Refusal.TheVariants as refusal
use Rattle.lrc_rules.specs.States.{State, has_stripe, lease_of, online_at}
use Rattle.lrc_rules.specs.Outcomes.{refuse_if}
use Rattle.lrc_rules.specs.Leases.{at_epoch, is_held_by, moved_in, done_answer, done_outcome}
use Rattle.lrc_rules.specs.Reporting.{IsReported}
use Rattle.lrc_rules.proofs.LeaseStepLemmas.{at_epoch-some}
use Rattle.lrc_rules.proofs.LeaseLawLemmas.{none-at}

low_range : (n : ℕ) → IsProp (1 ≤ n)
low_range n = le_prop

high_range : (n : ℕ) → IsProp (n ≤ 8)
high_range n = le_prop

session_range : (n : ℕ) → IsProp ((1 ≤ n) × (n ≤ 8))
session_range n a b = ap (λ (x : 1 ≤ n). (x, a.1)) (low_range n a.0 b.0) ∙ ap (λ (y : n ≤ 8). (b.0, y)) (high_range n a.1 b.1)

equal_sessions : (a b : SessionNo) → a.value ≡ b.value → a ≡ b
equal_sessions a b e =
    subst (λ n. (h : (1 ≤ n) × (n ≤ 8)) → a ≡ record { value = n; in_range = h }) e
    (λ h. ap (λ (i : (1 ≤ a.value) × (a.value ≤ 8)). record { value = a.value; in_range = i }) (session_range a.value a.in_range h)) b.in_range

pub held-session : (session : SessionNo) (l : LeaseRecord) → is_held_by session l ≡ true → l.holder ≡ session
held-session session l hit = equal_sessions l.holder session (eqb-true l.holder.value session.value hit)

pub session-held : (session : SessionNo) (l : LeaseRecord) → l.holder ≡ session → is_held_by session l ≡ true
session-held session l same = eq-eqb l.holder.value session.value (ap (λ (x : SessionNo). x.value) same)

pub not-held : (session : SessionNo) (l : LeaseRecord) → is_held_by session l ≡ false → l.holder ≢ session
not-held session l miss same = let both : true ≡ false = sym (session-held session l same) ∙ miss in cc

pub held-not : (session : SessionNo) (l : LeaseRecord) → l.holder ≢ session → is_held_by session l ≡ false
held-not session l other = ne_eqb l.holder.value session.value (λ same. other (equal_sessions l.holder session same))

pub at-own : (e : ℕ) (l : LeaseRecord) → l.epoch ≡ e → at_epoch e (Some l) ≡ Some l
at-own e l same = rw (eq-eqb l.epoch e same) refl

pub at-none : (e : ℕ) (o : Option LeaseRecord) → at_epoch e o ≡ None → (l : LeaseRecord) → o ≡ Some l → l.epoch ≢ e
at-none e o none l live same = let both : Some l ≡ None = sym (ap (at_epoch e) live ∙ at-own e l same) ∙ none in cc

module _ (nodes : List NodeInfo) (st : State) (session : SessionNo) (s : StripeNo) (f : Fragment) (e : ℕ) where
  abbrev pub IsStale : Type 0
  IsStale = (has_stripe st s ≡ true) × ((l : LeaseRecord) → lease_of st s f ≡ Some l → l.epoch ≢ e)

  abbrev pub IsOthers : SessionNo → Type 0
  IsOthers x = (l : LeaseRecord) × IsReported st s f e l × (l.holder ≡ x) × (x ≢ session)

  abbrev pub IsOffline : NodeNo → Type 0
  IsOffline n = (l : LeaseRecord) × IsReported st s f e l × (l.holder ≡ session) × (l.target.node ≡ n) × (online_at nodes st n ≡ false)

  abbrev pub SaysDone : Reply → Type 0
  SaysDone Ended = (l : LeaseRecord) × IsReported st s f e l × (l.holder ≡ session) × (online_at nodes st l.target.node ≡ true)
  SaysDone (Refused refusal.UnknownStripe) = has_stripe st s ≡ false
  SaysDone (Refused refusal.Stale) = IsStale
  SaysDone (Refused (refusal.NotHolder x)) = IsOthers x
  SaysDone (Refused (refusal.TargetOffline n)) = IsOffline n
  SaysDone _ = ⊥

  done-online : (l : LeaseRecord) → IsReported st s f e l → l.holder ≡ session → (b : Bool) → online_at nodes st l.target.node ≡ b
      → SaysDone (refuse_if (not b) (refusal.TargetOffline l.target.node) st (Ended, moved_in st s f l.target)).0
  done-online l own held true is = (l, own, held, is)
  done-online l own held false is = (l, own, held, refl, is)

  done-held : (l : LeaseRecord) → IsReported st s f e l → (b : Bool) → is_held_by session l ≡ b
      → SaysDone (refuse_if (not b) (refusal.NotHolder l.holder) st
      (refuse_if (not (online_at nodes st l.target.node)) (refusal.TargetOffline l.target.node) st (Ended, moved_in st s f l.target))).0
  done-held l own true is = done-online l own (held-session session l is) (online_at nodes st l.target.node) refl
  done-held l own false is = (l, own, refl, not-held session l is)

  done-lease : has_stripe st s ≡ true → (o : Option LeaseRecord) → at_epoch e (lease_of st s f) ≡ o → SaysDone (done_answer nodes st session s f o).0
  done-lease there None is = (there, at-none e (lease_of st s f) is)
  done-lease there (Some l) is =
      let live = at_epoch-some e (lease_of st s f) l is in
      done-held l (record { there = there; live = live.0; epoch = live.1 }) (is_held_by session l) refl

  done-stripe : (b : Bool) → has_stripe st s ≡ b
      → SaysDone (refuse_if (not b) refusal.UnknownStripe st (done_answer nodes st session s f (at_epoch e (lease_of st s f)))).0
  done-stripe false is = is
  done-stripe true is = done-lease is (at_epoch e (lease_of st s f)) refl

  done-says : SaysDone (done_outcome nodes st session s f e).0
  unfolding done_outcome
  done-says = done-stripe (has_stripe st s) refl

  -- a reply to Done is given only if what it means holds
  pub done-told : (r : Reply) → (done_outcome nodes st session s f e).0 ≡ r → SaysDone r
  done-told r told = subst SaysDone told done-says

  -- ---- and always if it holds

  reported-at : (l : LeaseRecord) → IsReported st s f e l → at_epoch e (lease_of st s f) ≡ Some l
  reported-at l own = ap (at_epoch e) own.live ∙ at-own e l own.epoch

  pub tell-done : SaysDone Ended → (done_outcome nodes st session s f e).0 ≡ Ended
  unfolding done_outcome
  tell-done (l, own, held, online) = rw (own.there, reported-at l own, session-held session l held, online) refl

  pub tell-offline : (n : NodeNo) → IsOffline n → (done_outcome nodes st session s f e).0 ≡ Refused (refusal.TargetOffline n)
  unfolding done_outcome
  tell-offline n (l, own, held, at, away) = rw (own.there, reported-at l own, session-held session l held, at, away) refl

  pub tell-others : (x : SessionNo) → IsOthers x → (done_outcome nodes st session s f e).0 ≡ Refused (refusal.NotHolder x)
  unfolding done_outcome
  tell-others x (l, own, whose, other) = rw (own.there, reported-at l own, held-not session l (λ same. other (sym whose ∙ same)), whose) refl

  pub tell-stale : IsStale → (done_outcome nodes st session s f e).0 ≡ Refused refusal.Stale
  unfolding done_outcome
  tell-stale (there, other) = rw (there, none-at e (lease_of st s f) other) refl
