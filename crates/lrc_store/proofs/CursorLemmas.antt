-- The cursor, before which nothing is grantable, and what a grant leaves of it.
use Rattle.std.proofs.Common.{[], ◌≡◌, ◌≢◌, ℕ, inl, inr, true, not, List, ◌∷◌, ◌++◌, map, find, Option, Some, None, arith, refl, sym, ap, ◌∙◌, subst}
use Rattle.std.specs.List.{AllPairs, Contains}
use Rattle.std.specs.Option.{option_or}
use Rattle.std.proofs.lemmas.Bool.{cases_Bool, and_parts, and_from}
use Rattle.std.proofs.lemmas.List.{map-append, append_assoc}
use Rattle.std.proofs.lemmas.List.Elements.{All-contains, Contains-append_left}
use Rattle.std.proofs.lemmas.List.Folds.{find-append}
use Rattle.lrc_code.specs.declared.numbers.StripeNo.{StripeNo}
use Rattle.lrc_code.specs.declared.numbers.Fragment.{Fragment}
use Rattle.lrc_topology.specs.declared.NodeInfo.{NodeInfo}
use Rattle.lrc_topology.specs.declared.seat.Seat.{Seat}
use Rattle.lrc_topology.specs.declared.seat.Held.{Held}
use Rattle.lrc_code.specs.Codes.{fragments}
use Rattle.lrc_terms.specs.Levels.{comes_first}
use Rattle.lrc_stripes.specs.Stored.{has_work, AreWork, AreWorkFrom}
use Rattle.lrc_terms.specs.Stripes.{StripeFragment}
use Rattle.lrc_terms.proofs.ListLemmas.{Contains-unmap}
use Rattle.lrc_terms.specs.declared.lease.Lease.{Lease as LeaseRecord}
use Rattle.lrc_terms.specs.Leased.{is_of}
use Rattle.lrc_rules.specs.States.{State, code_of, held_by, has_stripe, seats_of, taken_seats, lease_of, rank}
use Rattle.lrc_rules.specs.Choices.{IsApartFrom}
use Rattle.lrc_rules.specs.Repairs.{needs, kind}
use Rattle.lrc_rules.specs.Urgency.{is_grantable, stripe_fragments}
use Rattle.lrc_store.specs.Stores.{stored_of}
use Rattle.lrc_rules.specs.Granting.{IsGrantable, ComesFirst, IsMostUrgent}
use Rattle.lrc_rules.specs.Leases.{with_lease}
use Rattle.lrc_store.specs.declared.cursor.RepairCursor.{RepairCursor}
use Rattle.lrc_store.specs.declared.cursor.RepairCursor.TheVariants.{First, At, End}
use Rattle.lrc_store.specs.Repairing.{IsPast, IsRepairCursor, HaveGrantable}
use Rattle.lrc_rules.proofs.MemberLemmas.{All-members, map-member, member-filter, list_any-member}
use Rattle.lrc_rules.proofs.UrgencyLemmas.{fragments-from, needs-own}
use Rattle.lrc_rules.proofs.MostUrgentLemmas.{stripe-words, grantable-words}
use Rattle.lrc_terms.proofs.CodeListLemmas.{code-fragments}
use Rattle.lrc_store.proofs.WorkLemmas.{grantable-own, granted-works, has-work}
use Rattle.lrc_store.proofs.NodeStateLemmas.{rank-kept}
use Rattle.lrc_rules.proofs.LookUpLemmas.{stripe-there}

-- ---- with one more lease, what is grantable was so

module _ (nodes : List NodeInfo) (st : State) (l : LeaseRecord) where
  abbrev next : State
  next = with_lease st l

  still-none : (s : StripeNo) (f : Fragment) → lease_of next s f ≡ None → lease_of st s f ≡ None
  still-none s f none = by (lease_of st s f) refl where
    by : (o : Option LeaseRecord) → lease_of st s f ≡ o → lease_of st s f ≡ None
    by None is = is
    by (Some m) is =
        absurd (let clash : Some m ≡ None =
        ap (λ o. option_or o (find (is_of s f.value) (l ∷ []))) (sym is) ∙ sym (find-append (is_of s f.value) st.leases (l ∷ [])) ∙ none in cc)

  held-more : (h : Held) → Contains (seats_of st) h → Contains (seats_of next) h
  held-more h here =
      let held : seats_of next ≡ seats_of st ++ held_by l ∷ [] =
      ap (λ (hs : List Held). st.homes ++ hs) (map-append held_by st.leases (l ∷ [])) ∙ sym
      (append_assoc st.homes (map held_by st.leases) (held_by l ∷ [])) in
      subst (λ (hs : List Held). Contains hs h) (sym held) (Contains-append_left (seats_of st) (held_by l ∷ []) h here)

  taken-more : (seat : Seat) → Contains (taken_seats st) seat → Contains (taken_seats next) seat
  taken-more seat here =
      let (h, at, own) = Contains-unmap (λ (h : Held). h.seat) (seats_of st) seat here in
      subst (Contains (taken_seats next)) own (map-member (λ (h : Held). h.seat) (seats_of next) h (held-more h at))

  still-grantable : (p : StripeFragment) → IsGrantable nodes next p → IsGrantable nodes st p
  unfolding kind
  still-grantable p so =
      let eligible = so.fitting.eligible in
      record {
        owed = record { there = so.owed.there; none = still-none p.0 p.1 so.owed.none; needed = so.owed.needed; suffices = so.owed.suffices };
        node = so.node;
        fitting =
            record {
              known = so.fitting.known;
              eligible = record {
                active = eligible.active;
                online = eligible.online;
                room = (
                  eligible.room.0,
                  record {
                    within = eligible.room.1.within;
                    free = λ here. eligible.room.1.free (taken-more _ here);
                  },
                );
              };
              lawful =
                  All-members (IsApartFrom nodes st p.0 p.1 so.node) (seats_of st)
                  (λ h here. All-contains (IsApartFrom nodes st p.0 p.1 so.node) (seats_of next) h so.fitting.lawful (held-more h here));
            };
      }

  pub cursor-leased : (cursor : RepairCursor) → IsRepairCursor nodes st cursor → IsRepairCursor nodes next cursor
  cursor-leased First is = is
  cursor-leased End is = λ p so. is p (still-grantable p so)
  cursor-leased (At s) is = record { there = is.there; fragment = is.fragment; needed = is.needed; first = λ p so. is.first p (still-grantable p so) }

  urgent-once : (s t : StripeNo) → ComesFirst nodes st s t → ComesFirst nodes st t s → ⊥
  urgent-once s t (inl less) (inl more) = omega (arith, less, more)
  urgent-once s t (inl less) (inr (same, lower)) = omega (arith, less, same)
  urgent-once s t (inr (same, lower)) (inl more) = omega (arith, same, more)
  urgent-once s t (inr (same, lower)) (inr (equal, higher)) = omega (arith, lower, higher)

  not-ahead : (p q : StripeFragment) → IsMostUrgent nodes st p → IsGrantable nodes st q → ComesFirst nodes st q.0 p.0 → ⊥
  not-ahead p q most so ahead =
      let other : q ≢ p = λ same. (let own = subst (λ (z : StripeFragment). ComesFirst nodes st z.0 p.0) same ahead in urgent-once p.0 p.0 own own) in
      elim (most.first q so other) [
        | inl sooner ↦ urgent-once q.0 p.0 ahead sooner
        | inr (same, lower) ↦ let own = subst (λ (s : StripeNo). ComesFirst nodes st s p.0) (sym same) ahead in urgent-once p.0 p.0 own own
      ]

  -- the stripe of the most urgent fragment, which has a lease now
  pub cursor-granted : (p : StripeFragment) → IsMostUrgent nodes st p → IsPast nodes next p.0
  cursor-granted p most = record {
    there = most.grantable.owed.there;
    fragment = p.1;
    needed = most.grantable.owed.needed;
    first = λ q so. elim (cases_Bool (comes_first (rank nodes st) q.0 p.0)) [
      | inl ahead ↦ absurd (not-ahead p q most (still-grantable q so) ((stripe-words nodes st q.0 p.0).0 ahead))
      | inr behind ↦ behind
    ];
  }

-- ---- the stripes that may have a grantable fragment

module _ (nodes : List NodeInfo) (st : State) where
  pub past-works : (s : StripeNo) → IsPast nodes st s → has_work (stored_of nodes st) s ≡ true
  past-works s past =
      has-work nodes st s (stripe-there st s past.there)
      (list_any-member (needs nodes st s) (fragments (code_of st s)) past.fragment
      (code-fragments (code_of st s) past.fragment (needs-own nodes st s past.fragment past.needed)) past.needed)

  there-by : (s : StripeNo) → has_work (stored_of nodes st) s ≡ true → Contains st.stripes s
  there-by s has = stripe-there st s (and_parts (has_stripe st s) _ has).0

  pub grantable-all : (stripes : List StripeNo) → AreWork (stored_of nodes st) stripes → HaveGrantable nodes st stripes
  grantable-all stripes are = record {
    there = λ s here. there-by s ((are.each s).0 here);
    rising = subst (λ (by : StripeNo → ℕ). AllPairs (λ r t. comes_first by r t ≡ true) stripes) (rank-kept nodes st) are.rising;
    each = λ p there grantable. (are.each p.0).1 (has-work nodes st p.0 there (granted-works nodes st p grantable));
  }

  pub grantable-from : (first : StripeNo) (stripes : List StripeNo) → IsPast nodes st first → AreWorkFrom (stored_of nodes st) first stripes
      → HaveGrantable nodes st stripes
  grantable-from first stripes past are = record {
    there = λ s here. there-by s (and_parts (has_work (stored_of nodes st) s) _ ((are.each s).0 here)).0;
    rising = subst (λ (by : StripeNo → ℕ). AllPairs (λ r t. comes_first by r t ≡ true) stripes) (rank-kept nodes st) are.rising;
    each = λ p there grantable.
        let words = grantable-words nodes st p (member-filter (is_grantable nodes st) (stripe_fragments st) p (fragments-from st st.stripes p (grantable-own nodes st p grantable) there) grantable) in
        (are.each p.0).1 (and_from _ _ (has-work nodes st p.0 there (granted-works nodes st p grantable)) (ap (λ (by : StripeNo → ℕ). not (comes_first by p.0 first)) (rank-kept nodes st) ∙ ap not (past.first p words)));
  }
