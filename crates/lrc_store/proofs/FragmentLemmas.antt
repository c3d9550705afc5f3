-- A stripe whose leases end and whose homes are cleared, fragment by fragment.
use Rattle.std.proofs.Common.{[], Some, None, ◌≢◌, fold, if◌then◌else◌, ◌||◌, ◌≡◌, ℕ, ◌+◌, ◌<◌, ◌≤◌, Bool, true, false, not, ◌&&◌, eqb, List, ◌∷◌, filter, length, take, get_or, refl, sym, ap, ◌∙◌, subst, inl, inr, arith}
use Rattle.std.proofs.Math.Path.{fun_ext}
use Rattle.std.specs.List.{list_any}
use Rattle.std.proofs.lemmas.Bool.{cases_Bool, eqb-true, eq-eqb, ne_eqb}
use Rattle.std.proofs.lemmas.List.{take_more}
use Rattle.lrc_code.specs.declared.numbers.StripeNo.{StripeNo}
use Rattle.lrc_code.specs.declared.numbers.Fragment.{Fragment}
use Rattle.lrc_code.specs.Codes.{fragments, all_fragments}
use Rattle.lrc_topology.specs.declared.seat.Held.{Held}
use Rattle.lrc_rules.specs.Steps.{is_other, without_upgrading, without_stripe}
use Rattle.lrc_rules.specs.Goodness.{AreSeated}
use Rattle.lrc_stripes.specs.Stored.{Stored}
use Rattle.lrc_bars.proofs.ClosedLemmas.{settled-seated}
use Rattle.lrc_rules.proofs.MemberLemmas.{list_any-All, All-members, list_any-member}
use Rattle.lrc_rules.proofs.SeatedLemmas.{without-seated}
use Rattle.lrc_rules.proofs.LeaseGoodLemmas.{homes-seated}
use Rattle.lrc_store.proofs.StoredLemmas.{stored-without, stored-clear}
use Rattle.std.proofs.lemmas.List.Sums.{fold-append}
use Rattle.lrc_stripes.specs.Tables.{stored_in}
use Rattle.lrc_store.specs.declared.store.Store.{Store}
use Rattle.lrc_terms.specs.declared.lease.Lease.{Lease}
use Rattle.lrc_rules.specs.States.{State, has_stripe, held_by, taken_seats}
use Rattle.lrc_rules.specs.Leases.{without_lease, without_home}
use Rattle.lrc_store.specs.Dropping.{unleased, homeless}
use Rattle.lrc_topology.specs.declared.NodeInfo.{NodeInfo}
use Rattle.lrc_topology.specs.declared.seat.Seat.{Seat}
use Rattle.lrc_topology.specs.Seats.{is_taken}
use Rattle.lrc_slots.specs.Slots.{Slots, with_free}
use Rattle.lrc_slots.specs.Tables.{slots_of}
use Rattle.lrc_terms.specs.Levels.{home_of, homes_of}
use Rattle.lrc_store.proofs.ClearLemmas.{home-at, none-at, seat-there, clear-table}
use Rattle.lrc_store.specs.Stores.{IsOf}
use Rattle.lrc_bars.specs.Ties.{kept_table}
use Rattle.lrc_rules.proofs.LookUpLemmas.{test-sym, is_of}
use Rattle.lrc_stripes.specs.Tables as tables
use Rattle.lrc_stripes.specs.Stored as stored
use Rattle.lrc_slots.specs.Tables as slots
use Rattle.lrc_bars.proofs.FragmentListLemmas.{all-fragments, number-at}

-- a fragment's lease ended, and its home cleared
abbrev pub bared : State → StripeNo → Fragment → State
bared st s f = without_home (without_lease st s f) s f

-- ---- one fragment more of a list that is gone through

pub unleased-more : (st : State) (s : StripeNo) (fs : List Fragment) (i : ℕ) (d : Fragment) → i < length fs
    → without_lease (unleased st s (take i fs)) s (get_or fs i d) ≡ unleased st s (take (i + 1) fs)
unleased-more st s fs i d within =
    sym (ap (fold (λ now f. without_lease now s f) st) (take_more fs i d within)
    ∙ fold-append (λ now f. without_lease now s f) st (take i fs) (get_or fs i d ∷ []))

pub homeless-more : (st : State) (s : StripeNo) (fs : List Fragment) (i : ℕ) (d : Fragment) → i < length fs
    → without_home (homeless st s (take i fs)) s (get_or fs i d) ≡ homeless st s (take (i + 1) fs)
homeless-more st s fs i d within =
    sym (ap (fold (λ now f. without_home now s f) st) (take_more fs i d within)
    ∙ fold-append (λ now f. without_home now s f) st (take i fs) (get_or fs i d ∷ []))

-- ---- all fragments

-- the home is of the stripe, and of one of these fragments
abbrev is_among : StripeNo → List Fragment → Held → Bool
is_among s fs h = list_any (λ (f : Fragment). is_of s f.value h) fs

module _ {X : Type 0} where
  filter-both : (p q : X → Bool) (hs : List X) → filter q (filter p hs) ≡ filter (λ h. p h && q h) hs
  filter-both p q [] = refl
  filter-both p q (h ∷ hs) = elim (cases_Bool (p h)) [
    | inl hit ↦ rw hit (ap (λ xs. if q h then (h ∷ xs) else xs) (filter-both p q hs))
    | inr miss ↦ rw miss (filter-both p q hs)
  ]

  filter-alike : (p q : X → Bool) → ((h : X) → p h ≡ q h) → (hs : List X) → filter p hs ≡ filter q hs
  filter-alike p q same hs = ap (λ (test : X → Bool). filter test hs) (fun_ext same)

  filter-true : (hs : List X) → filter (λ h. true) hs ≡ hs
  filter-true [] = refl
  filter-true (h ∷ hs) = ap (λ xs. h ∷ xs) (filter-true hs)

not-or : (a b : Bool) → (not a && not b) ≡ not (a || b)
not-or true b = refl
not-or false b = refl

unleased-leases : (st : State) (s : StripeNo) (fs : List Fragment)
    → unleased st s fs ≡ record st { leases = filter (λ l. not (is_among s fs (held_by l))) st.leases }
unleased-leases st s [] = ap (λ ls. record st { leases = ls }) (sym (filter-true st.leases))
unleased-leases st s (f ∷ fs) =
    unleased-leases (without_lease st s f) s fs
    ∙ ap (λ ls. record st { leases = ls })
    (filter-both (λ (l : Lease). not (is_of s f.value (held_by l))) (λ l. not (is_among s fs (held_by l))) st.leases
    ∙ filter-alike (λ (l : Lease). not (is_of s f.value (held_by l)) && not (is_among s fs (held_by l))) (λ l. not (is_among s (f ∷ fs) (held_by l)))
    (λ l. not-or (is_of s f.value (held_by l)) (is_among s fs (held_by l))) st.leases)

homeless-homes : (st : State) (s : StripeNo) (fs : List Fragment)
    → homeless st s fs ≡ record st { homes = filter (λ h. not (is_among s fs h)) st.homes }
homeless-homes st s [] = ap (λ hs. record st { homes = hs }) (sym (filter-true st.homes))
homeless-homes st s (f ∷ fs) =
    homeless-homes (without_home st s f) s fs
    ∙ ap (λ hs. record st { homes = hs })
    (filter-both (λ (h : Held). not (is_of s f.value h)) (λ h. not (is_among s fs h)) st.homes
    ∙ filter-alike (λ (h : Held). not (is_of s f.value h) && not (is_among s fs h)) (λ h. not (is_among s (f ∷ fs) h))
    (λ h. not-or (is_of s f.value h) (is_among s fs h)) st.homes)

-- all fragments of the stripe are all its homes
among-all : (s : StripeNo) (h : Held) → not (is_among s all_fragments h) ≡ is_other s h.stripe
among-all s h = elim (cases_Bool (eqb h.stripe.value s.value)) [
  | inl same ↦
      let there : is_among s all_fragments h ≡ true = list_any-member (λ (f : Fragment). is_of s f.value h) all_fragments h.fragment (all-fragments h.fragment) (rw (same, eq-eqb h.fragment.value h.fragment.value refl) refl) in
      ap not there ∙ sym (ap not (eq-eqb s.value h.stripe.value (sym (eqb-true h.stripe.value s.value same))))
  | inr other ↦
      let none : is_among s all_fragments h ≡ false = list_any-All (λ (f : Fragment). is_of s f.value h) all_fragments (All-members (λ f. is_of s f.value h ≡ false) all_fragments (λ f here. rw other refl)) in
      ap not none ∙ sym (ap not (test-sym s.value h.stripe.value ∙ other))
]

unleased-all : (st : State) (s : StripeNo) → unleased st s all_fragments ≡ record st { leases = filter (λ l. is_other s l.stripe) st.leases }
unleased-all st s =
    unleased-leases st s all_fragments
    ∙ ap (λ ls. record st { leases = ls })
    (filter-alike (λ (l : Lease). not (is_among s all_fragments (held_by l))) (λ l. is_other s l.stripe) (λ l. among-all s (held_by l)) st.leases)

homeless-all : (st : State) (s : StripeNo) → homeless st s all_fragments ≡ record st { homes = filter (λ h. is_other s h.stripe) st.homes }
homeless-all st s =
    homeless-homes st s all_fragments
    ∙ ap (λ hs. record st { homes = hs })
    (filter-alike (λ (h : Held). not (is_among s all_fragments h)) (λ h. is_other s h.stripe) (among-all s) st.homes)

-- the stripe is there, also without its leases
pub unleased-has : (st : State) (s : StripeNo) → has_stripe st s ≡ true → has_stripe (unleased st s all_fragments) s ≡ true
unleased-has st s there = ap (λ (x : State). has_stripe x s) (unleased-all st s) ∙ there

-- ---- a home whose seat is given back

module _ (nodes : List NodeInfo) (st : State) (s : StripeNo) (f : Fragment) where
  -- it stands on a seat that is taken
  pub home-taken : AreSeated nodes st → (seat : Seat) → homes_of st.homes s f.value ≡ Some seat → (kept_table nodes st).taken seat.node seat.slot ≡ true
  home-taken good seat is =
      let home = home-at s f st.homes (home_of st.homes s f.value) refl seat is in
      subst (λ (a : Seat). is_taken (taken_seats st) a.node a.slot ≡ true) home.2 (seat-there nodes st s f home.0 good home.1)

  -- without the seat, the table is that without the home
  pub home-freed : AreSeated nodes st → (seat : Seat) → homes_of st.homes s f.value ≡ Some seat
      → with_free (kept_table nodes st) seat.node seat.slot ≡ kept_table nodes (without_home st s f)
  home-freed good seat is =
      let home = home-at s f st.homes (home_of st.homes s f.value) refl seat is in
      subst (λ (a : Seat). with_free (kept_table nodes st) a.node a.slot ≡ kept_table nodes (without_home st s f)) home.2
      (clear-table nodes (without_upgrading st) s f home.0 (settled-seated nodes st good) home.1)

  -- where there is no home, nothing changes
  pub none-freed : homes_of st.homes s f.value ≡ None → st ≡ without_home st s f
  none-freed is = ap (λ (hs : List Held). record st { homes = hs }) (sym (none-at s f st.homes is))

  -- the homes of other fragments stay
  pub others-stay : (g : Fragment) → f.value ≢ g.value → homes_of (without_home st s f).homes s g.value ≡ homes_of st.homes s g.value
  others-stay g apart =
      sym (ap (λ (x : Stored). x.homes s g.value) (stored-clear nodes st s f))
      ∙ rw (eq-eqb s.value s.value refl, ne_eqb f.value g.value apart) refl

-- The homes of the first fragments are cleared in the state of the table, and those of the others stand as they were.
pub record IsFreed (nodes : List NodeInfo) (st : State) (s : StripeNo) (i : ℕ) (table : Slots) : Type 0 where
  pub seated : AreSeated nodes (homeless st s (take i all_fragments))
  pub table_is : table ≡ kept_table nodes (homeless st s (take i all_fragments))
  pub left : (f : Fragment) → i ≤ f.value → homes_of (homeless st s (take i all_fragments)).homes s f.value ≡ homes_of st.homes s f.value

module _ (nodes : List NodeInfo) (st : State) (s : StripeNo) (i : ℕ) (d : Fragment) (within : i < 16) (table : Slots) (was : IsFreed nodes st s i table) where
  abbrev now : State
  now = homeless st s (take i all_fragments)

  abbrev here : Fragment
  here = get_or all_fragments i d

  home-left : homes_of now.homes s here.value ≡ homes_of st.homes s here.value
  home-left = let at = number-at i d within in was.left here (omega (arith, at))

  more : without_home now s here ≡ homeless st s (take (i + 1) all_fragments)
  more = homeless-more st s all_fragments i d within

  next-freed : (next : Slots) → next ≡ kept_table nodes (without_home now s here) → IsFreed nodes st s (i + 1) next
  next-freed next is = record {
    seated = subst (λ (x : State). AreSeated nodes x) more (homes-seated nodes now (λ h. not (is_of s here.value h)) was.seated);
    table_is = is ∙ ap (kept_table nodes) more;
    left = λ g above.
        let at = number-at i d within in
        ap (λ (x : State). homes_of x.homes s g.value) (sym more)
        ∙ others-stay nodes now s here g (λ e. absurd (omega (arith, at, above, e)))
        ∙ was.left g (omega (arith, above));
  }

  -- the seat of the next one's home is taken
  pub freed-taken : (seat : Seat) → homes_of st.homes s here.value ≡ Some seat → table.taken seat.node seat.slot ≡ true
  freed-taken seat is = ap (λ (t : Slots). t.taken seat.node seat.slot) was.table_is ∙ home-taken nodes now s here was.seated seat (home-left ∙ is)

  -- it is given back
  pub freed-seat : (seat : Seat) → homes_of st.homes s here.value ≡ Some seat → IsFreed nodes st s (i + 1) (with_free table seat.node seat.slot)
  freed-seat seat is =
      next-freed (with_free table seat.node seat.slot)
      (ap (λ (t : Slots). with_free t seat.node seat.slot) was.table_is ∙ home-freed nodes now s here was.seated seat (home-left ∙ is))

  -- or there is none
  pub freed-none : homes_of st.homes s here.value ≡ None → IsFreed nodes st s (i + 1) table
  freed-none is = next-freed table (was.table_is ∙ ap (kept_table nodes) (none-freed nodes now s here (home-left ∙ is)))

-- ---- the stripe taken out

-- With the leases ended, the seats given back and the stripe taken out, what is kept is that of the state without it.
pub dropped-kept : (st : State) (s : StripeNo) (before k : Store) (table : slots.Table) (stripes : tables.Table)
    → IsOf st before → IsOf (unleased st s all_fragments) k → k.topology ≡ before.topology
    → slots_of table ≡ kept_table k.topology (homeless (unleased st s all_fragments) s all_fragments)
    → stored_in stripes ≡ stored.without_stripe (stored_in k.stripes) s
    → IsOf (without_stripe st s) (record k { table = table; stripes = stripes })
dropped-kept st s before k table stripes first last same freed removed =
    let left = record st { leases = filter (λ l. is_other s l.stripe) st.leases } in
    let kept : IsOf left k = subst (λ (x : State). IsOf x k) (unleased-all st s) last in record {
      known = kept.known;
      seated = without-seated k.topology kept.known st s (subst (λ ns. AreSeated ns st) (sym same) first.seated);
      table_is = freed ∙ ap (kept_table k.topology) (ap (λ (x : State). homeless x s all_fragments) (unleased-all st s) ∙ homeless-all left s);
      stripes_is = removed ∙ ap (λ (x : Stored). stored.without_stripe x s) kept.stripes_is ∙ stored-without k.topology left s;
      leases_is = kept.leases_is;
      apart = kept.apart;
      upgrading_is = kept.upgrading_is;
      domains_are = kept.domains_are;
      clock_is = kept.clock_is;
    }
