-- The step of a command changes exactly the fragments that it touches, by its reply.
use Rattle.std.proofs.Common.{◌≡◌, ◌≢◌, ℕ, Bool, true, false, not, ◌&&◌, nat_lt, is_none, List, Option, Some, None, refl, sym, ap, ◌∙◌, subst, inl, inr}
use Rattle.std.proofs.lemmas.Bool.{lt-ltb}
use Rattle.lrc_code.specs.declared.codes.Code.TheVariants.{Wide, Narrow}
use Rattle.lrc_code.specs.declared.numbers.StripeNo.{StripeNo}
use Rattle.lrc_code.specs.declared.numbers.SessionNo.{SessionNo}
use Rattle.lrc_code.specs.declared.numbers.Fragment.{Fragment}
use Rattle.lrc_code.specs.Numbers.{same_stripe}
use Rattle.lrc_topology.specs.declared.NodeInfo.{NodeInfo}
use Rattle.lrc_terms.specs.declared.lease.Lease.{Lease as LeaseRecord}
use Rattle.lrc_terms.specs.Stripes.{StripeFragment}
use Rattle.lrc_terms.proofs.LeaseLemmas.{is_of-own, leases_in-filter}
use Rattle.lrc_rules.specs.declared.command.Command.{Command}
use Rattle.lrc_rules.specs.declared.command.Command.TheVariants.{Place, Place6, Drop, Lease, Next, Done, Abandon, Revoke, Fail, Tick}
use Rattle.lrc_rules.specs.declared.kind.Kind.{Kind}
use Rattle.lrc_rules.specs.declared.reply.Reply.{Reply}
use Rattle.lrc_rules.specs.declared.reply.Reply.TheVariants.{Placed, Placed6, Dropped, Granted, Ended, Changed, Ticked, Refused}
use Rattle.lrc_rules.specs.declared.refusal.Refusal.{Refusal}
use Rattle.lrc_rules.specs.declared.refusal.Refusal.TheVariants as refusal
use Rattle.lrc_rules.specs.declared.entry.Entry.{Entry}
use Rattle.lrc_rules.specs.States.{State, has_stripe, lease_of}
use Rattle.lrc_rules.specs.Goodness.{AreSeated}
use Rattle.lrc_rules.specs.Steps.{step}
use Rattle.lrc_rules.specs.Leases.{without_lease, revoke_outcome, tick_outcome, is_grant}
use Rattle.lrc_rules.specs.Changes.{with_done, changed_by, can_get}
use Rattle.lrc_rules.proofs.OutcomeLemmas.{passed-told}
use Rattle.lrc_rules.proofs.StepLemmas.{step-changed}
use Rattle.lrc_rules.proofs.ReplyLemmas.{step-gets}
use Rattle.lrc_rules.proofs.ToldLemmas.{place-told}
use Rattle.lrc_rules.proofs.LeaseCountLemmas.{step-follows}
use Rattle.lrc_rules.proofs.ReportedLemmas.{done-told}
use Rattle.lrc_rules.proofs.GivenBackLemmas.{abandon-told}
use Rattle.lrc_changes.specs.Changes.{own_lease, is_changed, former}
use Rattle.lrc_changes.specs.Touched.{ends, touches}
use Rattle.lrc_changes.proofs.SameLemmas.{stays}
use Rattle.lrc_changes.proofs.TouchLemmas.{placed-right, dropped-right, granted-right, let_go-right, moved-right, ticked-right, failed-right}

same-granted : (l m : LeaseRecord) (k j : Kind) → Granted l k ≡ Granted m j → l ≡ m
same-granted l m k j e = cc

same-clock : (a b c d : ℕ) → Ticked a b ≡ Ticked c d → a ≡ c
same-clock a b c d e = cc

-- a lease was revoked: it was live
revoke-told : (st : State) (s : StripeNo) (f : Fragment) → (revoke_outcome st s f).0 ≡ Ended → (l : LeaseRecord) × (lease_of st s f ≡ Some l)
unfolding revoke_outcome
revoke-told st s f told =
    let known = passed-told Ended never (not (has_stripe st s)) refusal.UnknownStripe st _ told in
    let live = passed-told Ended never (is_none (lease_of st s f)) refusal.NoLease st (Ended, without_lease st s f) known.1 in
    by (lease_of st s f) live.0
  where
    never : (r : Refusal) → Refused r ≢ Ended
    never r e = cc

    by : (o : Option LeaseRecord) → is_none o ≡ false → (l : LeaseRecord) × (o ≡ Some l)
    by None e = absurd (let both : true ≡ false = e in cc)
    by (Some l) e = (l, refl)

module _ (nodes : List NodeInfo) (past : List Entry) (st : State) (session : SessionNo) (p : StripeFragment) (seated : AreSeated nodes st) where
  -- a lease that is granted was not there
  granted-none : (c : Command) (l : LeaseRecord) (k : Kind) → (step nodes past st session c).0 ≡ Granted l k → lease_of st l.stripe l.fragment ≡ None
  granted-none c l k told = elim (step-follows nodes past st session c) [
    | inl grant ↦
        subst (λ (m : LeaseRecord). lease_of st m.stripe m.fragment ≡ None) (same-granted grant.lease l grant.from k (sym grant.told ∙ told)) grant.none
    | inr none ↦
        absurd (let never : true ≡ false = sym (is_of-own l) ∙ sym (ap (is_grant l.stripe l.fragment) told) ∙ none.none l.stripe l.fragment in cc)
  ]

  gets : (c : Command) (r : Reply) → (step nodes past st session c).0 ≡ r → can_get c r ≡ true
  gets c r told = subst (λ (q : Reply). can_get c q ≡ true) told (step-gets nodes past st session c)

  wide : (s : StripeNo) → (same_stripe s p.0 && nat_lt p.1.value 16) ≡ same_stripe s p.0
  wide s = ap (λ (b : Bool). same_stripe s p.0 && b) (lt-ltb p.1.value 16 p.1.in_range) ∙ by (same_stripe s p.0) where
    by : (b : Bool) → (b && true) ≡ b
    by true = refl
    by false = refl

  by : (c : Command) (r : Reply) → (step nodes past st session c).0 ≡ r → is_changed st (changed_by st c r) p ≡ touches c r (former st p)
  unfolding tick_outcome
  by (Place s) (Placed seats) told = placed-right nodes st p seated Wide s seats (place-told nodes st Wide s seats told) ∙ wide s
  by (Place6 s) (Placed6 seats) told = placed-right nodes st p seated Narrow s seats (place-told nodes st Narrow s seats told)
  by (Drop s) Dropped told = dropped-right st p s
  by (Lease s f) (Granted l k) told = granted-right st p l (granted-none (Lease s f) l k told)
  by Next (Granted l k) told = granted-right st p l (granted-none Next l k told)
  by (Done s f e) Ended told =
      let says = done-told nodes st session s f e Ended told in
      ap (λ (o : Option LeaseRecord). is_changed st (with_done st s f o) p) says.1.live ∙ moved-right st p s f says.0 says.1.live
  by (Abandon s f e) Ended told = let says = abandon-told st session s f e Ended told in let_go-right st p s f says.0 says.1.live
  by (Revoke s f) Ended told = let says = revoke-told st s f told in let_go-right st p s f says.0 says.1
  by (Fail n) Changed told = failed-right nodes st p seated n
  by Tick (Ticked clock ended) told =
      ticked-right st p (λ keep. leases_in-filter keep st.leases p.0 p.1.value seated.one_lease)
      ∙ ap (λ (c : ℕ). ends c (own_lease st p)) (same-clock _ _ clock ended told)
  by c (Granted l k) told = absurd (let never : false ≡ true = gets c (Granted l k) told in cc)
  by c (Ticked clock ended) told = absurd (let never : false ≡ true = gets c (Ticked clock ended) told in cc)
  by c Changed told = stays st (changed_by st c Changed) p refl refl
  by c r told = stays st (changed_by st c r) p refl refl

  -- a command with this reply
  pub touched-right : (c : Command) (r : Reply) → (step nodes past st session c).0 ≡ r
      → is_changed st (step nodes past st session c).1 p ≡ touches c r (former st p)
  touched-right c r told =
      ap (λ (next : State). is_changed st next p) (step-changed nodes past st session c ∙ ap (changed_by st c) told) ∙ by c r told
