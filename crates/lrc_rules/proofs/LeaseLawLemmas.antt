-- What a grant means for the live leases, and what Done and Abandon do with another epoch.
use Rattle.std.proofs.Common.{◌≡◌, ◌≢◌, ℕ, inl, inr, Bool, true, false, not, ◌&&◌, if◌then◌else◌, nat_eq, List, Option, Some, None, refl, sym, ap, ◌∙◌, subst}
use Rattle.std.proofs.lemmas.Bool.{cases_Bool, eqb-true, ne_eqb, and_parts}
use Rattle.std.proofs.lemmas.List.Elements.{All-contains}
use Rattle.lrc_code.specs.declared.numbers.StripeNo.{StripeNo}
use Rattle.lrc_code.specs.declared.numbers.SessionNo.{SessionNo}
use Rattle.lrc_code.specs.declared.numbers.Fragment.{Fragment}
use Rattle.lrc_code.specs.Numbers.{same_stripe}
use Rattle.lrc_code.proofs.NumbersLemmas.{equal_stripes, equal_fragments}
use Rattle.lrc_topology.specs.declared.NodeInfo.{NodeInfo}
use Rattle.lrc_topology.specs.declared.seat.Seat.{Seat}
use Rattle.lrc_terms.specs.declared.lease.Lease.{Lease as LeaseRecord}
use Rattle.lrc_terms.specs.Leased.{Leased, is_of}
use Rattle.lrc_terms.proofs.LeaseLemmas.{is_of-own, is_of-parts, leases_in-own, leases_in-contains, leased_of-append, leased_of-less}
use Rattle.lrc_rules.specs.declared.kind.Kind.{Kind}
use Rattle.lrc_rules.specs.declared.reply.Reply.TheVariants.{Granted, Ended, Refused}
use Rattle.lrc_rules.specs.declared.refusal.Refusal.{Refusal}
use Rattle.lrc_rules.specs.declared.refusal.Refusal.TheVariants as refusal
use Rattle.lrc_rules.specs.declared.entry.Entry.{Entry}
use Rattle.lrc_rules.specs.States.{State, has_stripe, lease_of}
use Rattle.lrc_rules.specs.Placement.{chosen}
use Rattle.lrc_rules.specs.Repairs.{needs, kind, is_beyond_repair}
use Rattle.lrc_rules.specs.Outcomes.{Outcome, refused, refuse_if}
use Rattle.lrc_rules.specs.Leases.{grants, new_lease, with_lease, granted, lease_answer, lease_outcome, without_lease, at_epoch, done_answer, done_outcome, abandon_answer, abandon_outcome}
use Rattle.lrc_rules.specs.Goodness.{IsGood}
use Rattle.lrc_rules.specs.declared.command.Command.{Command}
use Rattle.lrc_rules.specs.declared.command.Command.TheVariants.{Done, Abandon, Revoke}
use Rattle.lrc_rules.specs.declared.reply.Reply.{Reply}
use Rattle.lrc_rules.specs.Steps.{step}
use Rattle.lrc_rules.specs.Changes.{with_done, changed_by}
use Rattle.lrc_rules.proofs.StepLemmas.{step-changed}
use Rattle.lrc_rules.proofs.OutcomeLemmas.{either-way, when-told}

-- ---- stale epochs

-- a live lease of a good state has the last epoch of its fragment
pub live-epoch : (nodes : List NodeInfo) (past : List Entry) (st : State) (s : StripeNo) (f : Fragment) (l : LeaseRecord) → IsGood nodes past st
    → lease_of st s f ≡ Some l → l.epoch ≡ grants past s f
live-epoch nodes past st s f l good live =
    let own = leases_in-own st.leases s f.value l live in
    All-contains (λ k. k.epoch ≡ grants past k.stripe k.fragment) st.leases l good.current (leases_in-contains st.leases s f.value l live)
    ∙ ap (λ (r : StripeNo). grants past r l.fragment) own.0 ∙ ap (grants past s) (equal_fragments l.fragment f own.1)

pub none-at : (e : ℕ) (o : Option LeaseRecord) → ((l : LeaseRecord) → o ≡ Some l → l.epoch ≢ e) → at_epoch e o ≡ None
none-at e None other = refl
none-at e (Some l) other = rw (ne_eqb l.epoch e (other l refl)) refl

stale-by : (st : State) (b : Bool)
    → refuse_if (not b) refusal.UnknownStripe st (refused refusal.Stale st) ≡ refused (if b then refusal.Stale else refusal.UnknownStripe) st
stale-by st true = refl
stale-by st false = refl

module _ (nodes : List NodeInfo) (past : List Entry) (st : State) (session : SessionNo) (s : StripeNo) (f : Fragment) (e : ℕ) (good : IsGood nodes past st) (other : e ≢ grants past s f) where
  none-live : at_epoch e (lease_of st s f) ≡ None
  none-live = none-at e (lease_of st s f) (λ l live same. other (sym same ∙ live-epoch nodes past st s f l good live))

  -- Done with another epoch is refused
  pub done-stale : done_outcome nodes st session s f e ≡ refused (if has_stripe st s then refusal.Stale else refusal.UnknownStripe) st
  unfolding done_outcome
  done-stale =
      ap (λ (o : Option LeaseRecord). refuse_if (not (has_stripe st s)) refusal.UnknownStripe st (done_answer nodes st session s f o)) none-live
      ∙ stale-by st (has_stripe st s)

  -- and so is Abandon with another epoch
  pub abandon-stale : abandon_outcome st session s f e ≡ refused (if has_stripe st s then refusal.Stale else refusal.UnknownStripe) st
  unfolding abandon_outcome
  abandon-stale =
      ap (λ (o : Option LeaseRecord). refuse_if (not (has_stripe st s)) refusal.UnknownStripe st (abandon_answer st session s f o)) none-live
      ∙ stale-by st (has_stripe st s)

-- ---- grants

same_granted : (l m : LeaseRecord) (k j : Kind) → Granted l k ≡ Granted m j → (l ≡ m) × (k ≡ j)
same_granted l m k j e = (cc, cc)

module _ (nodes : List NodeInfo) (past : List Entry) (st : State) (session : SessionNo) (s : StripeNo) (f : Fragment) (l : LeaseRecord) (k : Kind) where
  -- the lease in the reply is the new one, on the chosen seat, and is live
  pub record IsNew (o : Outcome) : Type 0 where
    pub live : lease_of o.1 s f ≡ Some l
    pub seat : chosen nodes st s f ≡ Some l.target
    pub own : l ≡ new_lease past st session s f l.target
    pub from : k ≡ kind nodes st s f

  new-live : (m : LeaseRecord) → (m.stripe ≡ s) → (m.fragment ≡ f) → lease_of st s f ≡ None → lease_of (with_lease st m) s f ≡ Some m
  new-live m is_stripe is_fragment none =
      let none-own : lease_of st m.stripe m.fragment ≡ None =
      ap (λ (r : StripeNo). lease_of st r m.fragment) is_stripe ∙ ap (lease_of st s) is_fragment ∙ none in
      let own : lease_of (with_lease st m) m.stripe m.fragment ≡ Some m =
      ap (λ (t : Leased). t.leases m.stripe m.fragment.value) (leased_of-append st.leases m 0 none-own) ∙ rw (is_of-own m) refl in
      sym (ap (λ (r : StripeNo). lease_of (with_lease st m) r m.fragment) is_stripe ∙ ap (lease_of (with_lease st m) s) is_fragment) ∙ own

  granted-new : lease_of st s f ≡ None → (o : Option Seat) → chosen nodes st s f ≡ o → (granted nodes past st session s f o).0 ≡ Granted l k
      → IsNew (granted nodes past st session s f o)
  granted-new none None is e = absurd (let never : Refused (refusal.NoLawfulNode f) ≡ Granted l k = e in cc)
  granted-new none (Some seat) is e =
      let same = same_granted (new_lease past st session s f seat) l (kind nodes st s f) k e in
      let seats : seat ≡ l.target = ap (λ (x : LeaseRecord). x.target) same.0 in
      record {
        live = new-live (new_lease past st session s f seat) refl refl none ∙ ap (λ (x : LeaseRecord). Some x) same.0;
        seat = is ∙ ap (λ (x : Seat). Some x) seats;
        own = sym same.0 ∙ ap (new_lease past st session s f) seats;
        from = sym same.1;
      }

  not_refused : (r : Refusal) → Refused r ≢ Granted l k
  not_refused r e = cc

  answer-new : (o : Option LeaseRecord) → lease_of st s f ≡ o → (lease_answer nodes past st session s f o).0 ≡ Granted l k
      → IsNew (lease_answer nodes past st session s f o)
  answer-new (Some m) is e = absurd (let never : Refused (refusal.AlreadyLeased m.epoch) ≡ Granted l k = e in cc)
  answer-new None is e =
      when-told (Granted l k) not_refused IsNew (not (needs nodes st s f)) refusal.NotNeeded st _
      (when-told (Granted l k) not_refused IsNew (is_beyond_repair nodes st s f) refusal.Unrecoverable st _ (granted-new is (chosen nodes st s f) refl)) e

  -- the lease of a grant
  pub lease-new : (lease_outcome nodes past st session s f).0 ≡ Granted l k → IsNew (lease_outcome nodes past st session s f)
  unfolding lease_outcome
  lease-new = when-told (Granted l k) not_refused IsNew (not (has_stripe st s)) refusal.UnknownStripe st _ (answer-new (lease_of st s f) refl)

-- ---- other leases

-- a lease of one fragment is not a lease of the other
pub not-both : (s r : StripeNo) (f g : Fragment) → (r ≡ s → g ≢ f) → (same_stripe s r && nat_eq f.value g.value) ≡ false
not-both s r f g apart = elim (cases_Bool (same_stripe s r && nat_eq f.value g.value)) [
  | inr other ↦ other
  | inl both ↦
      let parts = and_parts _ _ both in
      absurd (apart (sym (equal_stripes s r (eqb-true _ _ parts.0))) (sym (equal_fragments f g (eqb-true _ _ parts.1))))
]

module _ (st : State) (s r : StripeNo) (f g : Fragment) (apart : r ≡ s → g ≢ f) where
  abbrev pub KeepsLease : State → Type 0
  KeepsLease next = lease_of next r g ≡ lease_of st r g

  pub ended-keeps : KeepsLease (without_lease st s f)
  ended-keeps = ap (λ (t : Leased). t.leases r g.value) (leased_of-less st.leases s f 0) ∙ rw (not-both s r f g apart) refl

  new-keeps : (l : LeaseRecord) → l.stripe ≡ s → l.fragment ≡ f → lease_of st l.stripe l.fragment ≡ None → KeepsLease (with_lease st l)
  new-keeps l is_stripe is_fragment none =
      ap (λ (t : Leased). t.leases r g.value) (leased_of-append st.leases l 0 none)
      ∙ (let miss : is_of r g.value l ≡ false = elim (cases_Bool (is_of r g.value l)) [
        | inr other ↦ other
        | inl own ↦
            let parts = is_of-parts r g.value l own in
            absurd (apart (sym (equal_stripes l.stripe r parts.0) ∙ is_stripe) (sym (equal_fragments l.fragment g parts.1) ∙ is_fragment))
      ] in rw miss refl)

  done-by : (o : Option LeaseRecord) → KeepsLease (with_done st s f o)
  done-by None = refl
  done-by (Some l) = ended-keeps

  module _ (nodes : List NodeInfo) (past : List Entry) (session : SessionNo) where
    granted-keeps : lease_of st s f ≡ None → (o : Option Seat) → KeepsLease (granted nodes past st session s f o).1
    granted-keeps none None = refl
    granted-keeps none (Some seat) = new-keeps (new_lease past st session s f seat) refl refl none

    answer-keeps : (o : Option LeaseRecord) → lease_of st s f ≡ o → KeepsLease (lease_answer nodes past st session s f o).1
    answer-keeps (Some l) is = refl
    answer-keeps None is =
        either-way KeepsLease (not (needs nodes st s f)) refusal.NotNeeded st _ refl (λ needed.
        either-way KeepsLease (is_beyond_repair nodes st s f) refusal.Unrecoverable st _ refl (λ safe. granted-keeps is (chosen nodes st s f)))

    pub lease-keeps : KeepsLease (lease_outcome nodes past st session s f).1
    unfolding lease_outcome
    lease-keeps = either-way KeepsLease (not (has_stripe st s)) refusal.UnknownStripe st _ refl (λ there. answer-keeps (lease_of st s f) refl)

    changed-keeps : (c : Command) → ((q : Reply) → KeepsLease (changed_by st c q)) → KeepsLease (step nodes past st session c).1
    changed-keeps c keeps = subst KeepsLease (sym (step-changed nodes past st session c)) (keeps (step nodes past st session c).0)

    pub done-keeps : (e : ℕ) → KeepsLease (step nodes past st session (Done s f e)).1
    done-keeps e = changed-keeps (Done s f e) by where
      by : (q : Reply) → KeepsLease (changed_by st (Done s f e) q)
      by Ended = done-by (lease_of st s f)
      by _ = refl

    pub abandon-keeps : (e : ℕ) → KeepsLease (step nodes past st session (Abandon s f e)).1
    abandon-keeps e = changed-keeps (Abandon s f e) by where
      by : (q : Reply) → KeepsLease (changed_by st (Abandon s f e) q)
      by Ended = ended-keeps
      by _ = refl

    pub revoke-keeps : KeepsLease (step nodes past st session (Revoke s f)).1
    revoke-keeps = changed-keeps (Revoke s f) by where
      by : (q : Reply) → KeepsLease (changed_by st (Revoke s f) q)
      by Ended = ended-keeps
      by _ = refl
