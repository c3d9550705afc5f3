-- A fragment that the code of a stripe lacks has no home and no lease, and needs none.
use Rattle.std.proofs.Common.{◌≡◌, ◌≢◌, ℕ, ◌≤◌, Bool, true, false, ◌&&◌, List, Option, Some, None, refl, sym, ap, ◌∙◌, subst}
use Rattle.std.specs.Option.{option_map_or}
use Rattle.std.proofs.lemmas.Bool.{le-ltb}
use Rattle.std.proofs.lemmas.List.Elements.{All-contains}
use Rattle.lrc_code.specs.declared.numbers.StripeNo.{StripeNo}
use Rattle.lrc_code.specs.declared.numbers.SessionNo.{SessionNo}
use Rattle.lrc_code.specs.declared.numbers.Fragment.{Fragment}
use Rattle.lrc_code.specs.Codes.{fragment_count, has_fragment}
use Rattle.lrc_topology.specs.declared.NodeInfo.{NodeInfo}
use Rattle.lrc_topology.specs.declared.seat.Seat.{Seat}
use Rattle.lrc_terms.specs.Levels.{homes_of}
use Rattle.lrc_terms.specs.declared.lease.Lease.{Lease as LeaseRecord}
use Rattle.lrc_terms.specs.Leased.{is_of}
use Rattle.lrc_terms.proofs.LeaseLemmas.{find-some, leases_in-own}
use Rattle.lrc_rules.specs.declared.reply.Reply.TheVariants.{Refused}
use Rattle.lrc_rules.specs.declared.refusal.Refusal.TheVariants as refusal
use Rattle.lrc_rules.specs.declared.entry.Entry.{Entry}
use Rattle.lrc_rules.specs.States.{State, has_stripe, code_of, drains_at, lease_of, held_by}
use Rattle.lrc_rules.specs.Repairs.{needs}
use Rattle.lrc_rules.specs.Leases.{lease_outcome, done_outcome, abandon_outcome, revoke_outcome}
use Rattle.lrc_rules.specs.Goodness.{AreSeated}
use Rattle.lrc_rules.proofs.SeatingLemmas.{IsWithin, leases-all}
use Rattle.lrc_rules.proofs.GrantingLemmas.{tell-not_needed}
use Rattle.lrc_rules.proofs.ReportedLemmas as reported
use Rattle.lrc_rules.proofs.GivenBackLemmas as given_back

module _ (nodes : List NodeInfo) (st : State) (s : StripeNo) (f : Fragment) (seated : AreSeated nodes st) (beyond : fragment_count (code_of st s) ≤ f.value) where
  lacked : has_fragment (code_of st s) f.value ≡ false
  lacked = le-ltb f.value (fragment_count (code_of st s)) beyond

  lease-by : (o : Option LeaseRecord) → lease_of st s f ≡ o → o ≡ None
  lease-by None live = refl
  lease-by (Some l) live = absurd (
      let found = find-some (is_of s f.value) st.leases l live in
      let own = leases_in-own st.leases s f.value l live in
      let within : has_fragment (code_of st l.stripe) l.fragment.value ≡ true = All-contains (λ (k : LeaseRecord). IsWithin st (held_by k)) st.leases l (leases-all (IsWithin st) st seated.within) found.0 in
      let here : has_fragment (code_of st s) f.value ≡ true =
      subst (λ (n : ℕ). has_fragment (code_of st s) n ≡ true) own.1 (subst (λ (r : StripeNo). has_fragment (code_of st r) l.fragment.value ≡ true) own.0 within) in
      let both : true ≡ false = sym here ∙ lacked in cc)

  pub no-lease : lease_of st s f ≡ None
  no-lease = lease-by (lease_of st s f) refl

  not-needed : needs nodes st s f ≡ false
  not-needed = ap (λ (b : Bool). b && option_map_or (λ (seat : Seat). drains_at nodes st seat.node) (homes_of st.homes s f.value) true) lacked

  not-at : (e : ℕ) (l : LeaseRecord) → lease_of st s f ≡ Some l → l.epoch ≢ e
  not-at e l live is = let both : None ≡ Some l = sym no-lease ∙ live in cc

  module _ (there : has_stripe st s ≡ true) where
    pub lease-lacked : (past : List Entry) (session : SessionNo) → (lease_outcome nodes past st session s f).0 ≡ Refused refusal.NotNeeded
    lease-lacked past session = tell-not_needed nodes past st session s f (there, no-lease, not-needed)

    pub done-lacked : (session : SessionNo) (e : ℕ) → (done_outcome nodes st session s f e).0 ≡ Refused refusal.Stale
    done-lacked session e = reported.tell-stale nodes st session s f e (there, not-at e)

    pub abandon-lacked : (session : SessionNo) (e : ℕ) → (abandon_outcome st session s f e).0 ≡ Refused refusal.Stale
    abandon-lacked session e = given_back.tell-stale st session s f e (there, not-at e)

    pub revoke-lacked : (revoke_outcome st s f).0 ≡ Refused refusal.NoLease
    unfolding revoke_outcome
    revoke-lacked = rw (there, no-lease) refl
