-- The state after an accepted Done.
use Rattle.std.proofs.Common.{[], ◌≡◌, ◌≢◌, true, false, ◌&&◌, nat_eq, Option, Some, None, List, ℕ, refl, sym, ap, ◌∙◌, subst}
use Rattle.std.proofs.lemmas.Bool.{eq-eqb}
use Rattle.lrc_code.specs.declared.numbers.StripeNo.{StripeNo}
use Rattle.lrc_code.specs.declared.numbers.SessionNo.{SessionNo}
use Rattle.lrc_code.specs.declared.numbers.Fragment.{Fragment}
use Rattle.lrc_code.specs.Numbers.{same_stripe}
use Rattle.lrc_topology.specs.declared.NodeInfo.{NodeInfo}
use Rattle.lrc_topology.specs.declared.seat.Seat.{Seat}
use Rattle.lrc_topology.specs.declared.seat.Held.{Held}
use Rattle.lrc_terms.specs.Levels.{home_of, homes_of}
use Rattle.lrc_terms.specs.declared.lease.Lease.{Lease as LeaseRecord}
use Rattle.lrc_terms.specs.Leased.{Leased}
use Rattle.lrc_terms.proofs.LeaseLemmas.{leased_of-less}
use Rattle.lrc_rules.specs.declared.reply.Reply.TheVariants.{Ended}
use Rattle.lrc_rules.specs.States.{State, lease_of}
use Rattle.lrc_rules.specs.Placement.{with_home}
use Rattle.lrc_rules.specs.declared.command.Command.TheVariants.{Done}
use Rattle.lrc_rules.specs.declared.reply.Reply.{Reply}
use Rattle.lrc_rules.specs.declared.entry.Entry.{Entry}
use Rattle.lrc_rules.specs.Steps.{step}
use Rattle.lrc_rules.specs.Changes.{with_done, changed_by}
use Rattle.lrc_rules.specs.Leases.{without_lease, without_home, moved_in, done_outcome}
use Rattle.lrc_rules.proofs.StepLemmas.{done-changed, step-changed}
use Rattle.lrc_rules.proofs.LookUpLemmas.{homes-with, homes-cleared}
use Rattle.lrc_rules.proofs.LeaseLawLemmas.{not-both}

module _ (st : State) (s : StripeNo) (f : Fragment) where
  own : (same_stripe s s && nat_eq f.value f.value) ≡ true
  own = rw (eq-eqb s.value s.value refl, eq-eqb f.value f.value refl) refl

  pub none-left : lease_of (without_lease st s f) s f ≡ None
  none-left = ap (λ (t : Leased). t.leases s f.value) (leased_of-less st.leases s f 0) ∙ rw own refl

  no-seat : (o : Option Held) → homes_of st.homes s f.value ≡ None → home_of st.homes s f.value ≡ o → o ≡ None
  no-seat None none is = refl
  no-seat (Some h) none is = absurd (let no : Some h.seat ≡ None = rw is at none in cc)

  cleared : homes_of (without_home st s f).homes s f.value ≡ None
  cleared = homes-cleared st s f s f.value ∙ rw own refl

  settled : (seat : Seat) → home_of st.homes s f.value ≡ None → homes_of (with_home st s f seat).homes s f.value ≡ Some seat
  settled seat none = homes-with st s f seat none s f.value ∙ rw own refl

module _ (nodes : List NodeInfo) (st : State) (session : SessionNo) (s : StripeNo) (f : Fragment) (e : ℕ) (l : LeaseRecord)
    (live : lease_of st s f ≡ Some l) (told : (done_outcome nodes st session s f e).0 ≡ Ended) where
  moved : (done_outcome nodes st session s f e).1 ≡ moved_in st s f l.target
  moved = done-changed nodes [] st session s f e ∙ ap (changed_by st (Done s f e)) told ∙ ap (with_done st s f) live

  -- the lease is over, and its target is the fragment's home
  pub moved-lease : lease_of (done_outcome nodes st session s f e).1 s f ≡ None
  moved-lease = ap (λ (x : State). lease_of x s f) moved ∙ none-left st s f

  pub moved-home : homes_of (done_outcome nodes st session s f e).1.homes s f.value ≡ Some l.target
  moved-home =
      let base = without_home (without_lease st s f) s f in
      ap (λ (x : State). homes_of x.homes s f.value) moved
      ∙ settled base s f l.target (no-seat base s f (home_of base.homes s f.value) (cleared (without_lease st s f) s f) refl)

-- ---- every other home

module _ (st : State) (s r : StripeNo) (f g : Fragment) (apart : r ≡ s → g ≢ f) where
  abbrev KeepsHome : State → Type 0
  KeepsHome next = homes_of next.homes r g.value ≡ homes_of st.homes r g.value

  both : (same_stripe s r && nat_eq f.value g.value) ≡ false
  both = not-both s r f g apart

  moved-keeps : (seat : Seat) → KeepsHome (moved_in st s f seat)
  moved-keeps seat =
      let base = without_home (without_lease st s f) s f in
      homes-with base s f seat (no-seat base s f (home_of base.homes s f.value) (cleared (without_lease st s f) s f) refl) r g.value
      ∙ rw both (homes-cleared (without_lease st s f) s f r g.value ∙ rw both refl)

  -- whatever lease the fragment had
  pub done-homes : (o : Option LeaseRecord) → KeepsHome (with_done st s f o)
  done-homes None = refl
  done-homes (Some l) = moved-keeps l.target

pub homes-keep : (nodes : List NodeInfo) (past : List Entry) (st : State) (session : SessionNo) (s r : StripeNo) (f g : Fragment) → (r ≡ s → g ≢ f)
    → (e : ℕ) → homes_of (step nodes past st session (Done s f e)).1.homes r g.value ≡ homes_of st.homes r g.value
homes-keep nodes past st session s r f g apart e =
    let Keeps : State → Type 0 = λ next. homes_of next.homes r g.value ≡ homes_of st.homes r g.value in
    subst Keeps (sym (step-changed nodes past st session (Done s f e))) (by (step nodes past st session (Done s f e)).0)
  where
    by : (q : Reply) → homes_of (changed_by st (Done s f e) q).homes r g.value ≡ homes_of st.homes r g.value
    by Ended = done-homes st s r f g apart (lease_of st s f)
    by _ = refl
