use Rattle.std.proofs.Common.{◌≡◌, ◌≢◌, ◌↔◌, ◌⊎◌, ◌+◌, inl, inr, true, not, map, sym, ap, ◌∙◌, subst, eq-eqb}
use Rattle.std.specs.List.{Contains}
use Rattle.std.proofs.lemmas.Bool.{ne_eqb}
use Rattle.std.proofs.lemmas.List.Elements.{Contains-append_left, Contains-append_right, Contains-append_cases}
use Rattle.lrc_topology.specs.declared.seat.Held.{Held}
use Rattle.lrc_terms.specs.declared.lease.Lease.{Lease}
use Rattle.lrc_terms.specs.Leased.{ends_at}
use Rattle.lrc_rules.specs.States.{State, held_by, seats_of}
use Rattle.lrc_rules.specs.Leases.{ticked, tick_outcome}
use Rattle.lrc_rules.proofs.MemberLemmas.{filter-member, member-filter, map-member}
use Rattle.lrc_rules.proofs.TakenLemmas.{member-map}
use Rattle.lrc_rules.proofs.laws.leases.ticks_in_words.Goals as goal

module _ (st : State) where
  still-live : (l : Lease) → Contains (ticked st).leases l ↔ (Contains st.leases l × (l.expiry ≢ st.clock + 1))
  still-live l = (
    (λ here.
        let both = filter-member (λ (k : Lease). not (ends_at (st.clock + 1) k)) st.leases l here in
        (both.0, λ same. absurd (let off : not true ≡ true = sym (ap not (eq-eqb l.expiry (st.clock + 1) same)) ∙ both.1 in cc))),
    (λ both. member-filter (λ (k : Lease). not (ends_at (st.clock + 1) k)) st.leases l both.0 (ap not (ne_eqb l.expiry (st.clock + 1) both.1))),
  )

  still-held : (h : Held) → Contains (seats_of (ticked st)) h ↔ (Contains st.homes h ⊎ ((l : Lease) × Contains st.leases l × (l.expiry ≢ st.clock + 1) × (held_by l ≡ h)))
  still-held h = (
    (λ here. elim (Contains-append_cases st.homes (map held_by (ticked st).leases) h here) [
      | inl home ↦ inl home
      | inr target ↦
          let from = member-map held_by (ticked st).leases h target in
          let was = (still-live from.0).0 from.1 in
          inr (from.0, was.0, was.1, from.2)
    ]),
    (λ from. elim from [
      | inl home ↦ Contains-append_left st.homes (map held_by (ticked st).leases) h home
      | inr target ↦
          Contains-append_right st.homes (map held_by (ticked st).leases) h
          (subst (λ (g : Held). Contains (map held_by (ticked st).leases) g) target.3
          (map-member held_by (ticked st).leases target.0 ((still-live target.0).1 (target.1, target.2))))
    ]),
  )

pub returns-clause-leases : goal.returns-clause-leases
unfolding tick_outcome
returns-clause-leases c = λ nodes past st session l. still-live st l

pub returns-clause-seats : goal.returns-clause-seats
unfolding tick_outcome
returns-clause-seats c = λ nodes past st session h. still-held st h
