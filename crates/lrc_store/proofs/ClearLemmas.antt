-- A home that is cleared, and its seat given back.
use Rattle.std.proofs.Common.{[], ◌≡◌, ◌≢◌, ◌<◌, ◌≤◌, Bool, true, false, not, cond, ◌&&◌, eqb, List, ◌∷◌, map, filter, find, Option, Some, None, option_map, refl, sym, ap, ◌∙◌, subst, inl, inr, arith}
use Rattle.std.specs.List.{All, Contains, count_by}
use Rattle.std.proofs.lemmas.Bool.{cases_Bool, eqb-true, eq-eqb, and_parts}
use Rattle.std.proofs.lemmas.Option.{same_Some}
use Rattle.std.proofs.lemmas.List.Elements.{All-contains, Contains-append_left}
use Rattle.std.proofs.lemmas.List.Sums.{sum_by-cons}
use Rattle.lrc_code.specs.declared.numbers.StripeNo.{StripeNo}
use Rattle.lrc_code.specs.declared.numbers.Fragment.{Fragment}
use Rattle.lrc_code.specs.Codes.{has_fragment}
use Rattle.lrc_topology.specs.declared.NodeInfo.{NodeInfo}
use Rattle.lrc_topology.specs.declared.seat.Seat.{Seat}
use Rattle.lrc_topology.specs.declared.seat.Held.{Held}
use Rattle.lrc_topology.specs.Seats.{is_taken}
use Rattle.lrc_slots.specs.Slots.{Slots, with_free}
use Rattle.lrc_terms.specs.Levels.{home_of}
use Rattle.lrc_stripes.specs.Stored.{Stored}
use Rattle.lrc_rules.specs.States.{State, has_stripe, held_by, seats_of, taken_seats}
use Rattle.lrc_rules.specs.Steps.{without_upgrading}
use Rattle.lrc_rules.specs.Goodness.{AreSeated}
use Rattle.lrc_bars.specs.Ties.{table_of, kept_table}
use Rattle.lrc_bars.proofs.ClosedLemmas.{settled-seated}
use Rattle.lrc_rules.proofs.MemberLemmas.{filter-member, member-filter, map-member, Contains-cases, not-Contains-nil, list_any-member}
use Rattle.lrc_rules.proofs.NodeLemmas.{member-taken}
use Rattle.lrc_rules.proofs.LeaseGoodLemmas.{homes-seated}
use Rattle.lrc_rules.proofs.TakenLemmas.{taken-cases, home-seat, target-seat}
use Rattle.lrc_rules.proofs.PairLemmas.{pairs-left, pairs-across, pairs-members}
use Rattle.lrc_rules.proofs.SeatingLemmas.{held-single}
use Rattle.lrc_rules.specs.Leases.{without_home}
use Rattle.lrc_store.specs.Stores.{IsOf}
use Rattle.lrc_store.specs.declared.store.Store.{Store}
use Rattle.lrc_slots.specs.Tables.{slots_of}
use Rattle.lrc_stripes.specs.Tables.{stored_in}
use Rattle.lrc_store.proofs.StoredLemmas.{stored-clear}
use Rattle.lrc_bars.proofs.SlotTableLemmas.{table-less}
use Rattle.lrc_rules.proofs.LookUpLemmas.{is_of, found-home, home-only, home-own}
use Rattle.lrc_stripes.specs.Stored as stored
use Rattle.lrc_slots.specs.Tables as slots
use Rattle.lrc_stripes.specs.Tables as tables

-- ---- lists

module _ {X : Type 0} (test kept : X → Bool) where
  pub count-fewer : (xs : List X) → count_by test (filter kept xs) ≤ count_by test xs
  count-fewer [] = omega arith
  count-fewer (x ∷ xs) =
      let more = count-fewer xs in
      elim (cases_Bool (kept x)) [
        | inl stays ↦ rw (stays, sum_by-cons (λ y. cond (test y) 1 0) x (filter kept xs), sum_by-cons (λ y. cond (test y) 1 0) x xs) (omega (arith, more))
        | inr goes ↦ rw (goes, sum_by-cons (λ y. cond (test y) 1 0) x xs) (omega (arith, more))
      ]

  -- one that is counted is left out
  pub count-falls : (xs : List X) (x : X) → Contains xs x → test x ≡ true → kept x ≡ false → count_by test (filter kept xs) < count_by test xs
  count-falls [] x here hit goes = absurd (not-Contains-nil x here)
  count-falls (y ∷ ys) x here hit goes = elim (Contains-cases y x ys here) [
    | inl same ↦
        let counted : test y ≡ true = rw same hit in
        let out : kept y ≡ false = rw same goes in
        let fewer = count-fewer ys in
        rw (out, sum_by-cons (λ y. cond (test y) 1 0) y ys, counted) (omega (arith, fewer))
    | inr more ↦
        let falls = count-falls ys x more hit goes in
        elim (cases_Bool (kept y)) [
          | inl stays ↦ rw (stays, sum_by-cons (λ y. cond (test y) 1 0) y (filter kept ys), sum_by-cons (λ y. cond (test y) 1 0) y ys) (omega (arith, falls))
          | inr out ↦ rw (out, sum_by-cons (λ y. cond (test y) 1 0) y ys) (omega (arith, falls))
        ]
  ]

-- ---- one home cleared

module _ (nodes : List NodeInfo) (st : State) (s : StripeNo) (f : Fragment) (h : Held) (good : AreSeated nodes st) (found : home_of st.homes s f.value ≡ Some h) where
  abbrev kept : Held → Bool
  kept g = not (is_of s f.value g)

  abbrev cleared : State
  cleared = record st { homes = filter kept st.homes }

  -- it is the only one of its fragment
  pub only : (g : Held) → Contains st.homes g → is_of s f.value g ≡ true → g ≡ h
  only g here hit =
      let parts = and_parts (eqb g.stripe.value s.value) (eqb g.fragment.value f.value) hit in
      let own : home_of st.homes g.stripe g.fragment.value ≡ Some g = home-only st.homes good.one_home g here in
      let at : home_of st.homes s f.value ≡ Some g =
      subst (λ v. find (λ (x : Held). eqb x.stripe.value s.value && eqb x.fragment.value v) st.homes ≡ Some g) (eqb-true g.fragment.value f.value parts.1)
      (subst (λ v. find (λ (x : Held). eqb x.stripe.value v && eqb x.fragment.value g.fragment.value) st.homes ≡ Some g) (eqb-true g.stripe.value s.value parts.0) own) in
      same_Some g h (sym at ∙ found)

  there-home : Contains st.homes h × (is_of s f.value h ≡ true)
  there-home = found-home st s f.value h found

  pub stripe-there : has_stripe st s ≡ true
  stripe-there =
      let parts = and_parts (eqb h.stripe.value s.value) (eqb h.fragment.value f.value) there-home.1 in
      list_any-member (λ (u : StripeNo). eqb s.value u.value) st.stripes h.stripe (All-contains (λ (g : Held). Contains st.stripes g.stripe) (seats_of st) h good.there (Contains-append_left st.homes (map held_by st.leases) h there-home.0))
      (eq-eqb s.value h.stripe.value (sym (eqb-true h.stripe.value s.value parts.0)))

  pub seat-there : is_taken (taken_seats st) h.seat.node h.seat.slot ≡ true
  seat-there = member-taken (taken_seats st) h.seat.node h.seat.slot (home-seat st h there-home.0)

  -- a home that is left is another
  left-other : (g : Held) → Contains st.homes g → kept g ≡ true → g ≢ h
  left-other g here stays same = (let both : true ≡ false = sym stays ∙ ap kept same ∙ ap not there-home.1 in cc)

  abbrev pub targets : List Held
  targets = map held_by st.leases

  -- so its seat is another
  left-seat : (b : Seat) → Contains (taken_seats cleared) b → Contains (taken_seats st) b × (b ≢ h.seat)
  left-seat b here = elim (taken-cases cleared b here) [
    | inl (g, at, e) ↦
        let m = filter-member kept st.homes g at in
        let apart = pairs-members (λ (x y : Held). x.seat ≢ y.seat) (λ x y r same. r (sym same)) st.homes g h
        (pairs-left (λ (x y : Held). x.seat ≢ y.seat) st.homes targets (held-single nodes st good)) m.0 there-home.0 (left-other g m.0 m.1) in
        (subst (Contains (taken_seats st)) e (home-seat st g m.0), λ same. apart (e ∙ same))
    | inr (l, at, e) ↦
        let across = All-contains (λ (x : Held). All (λ (y : Held). x.seat ≢ y.seat) targets) st.homes h (pairs-across (λ (x y : Held). x.seat ≢ y.seat) st.homes targets (held-single nodes st good)) there-home.0 in
        let apart = All-contains (λ (y : Held). h.seat ≢ y.seat) targets (held_by l) across (map-member held_by st.leases l at) in
        (subst (Contains (taken_seats st)) e (target-seat st l at), λ same. apart (sym (e ∙ same)))
  ]

  -- and all others are left
  other-left : (b : Seat) → Contains (taken_seats st) b → b ≢ h.seat → Contains (taken_seats cleared) b
  other-left b here other = elim (taken-cases st b here) [
    | inr (l, at, e) ↦ subst (Contains (taken_seats cleared)) e (target-seat cleared l at)
    | inl (g, at, e) ↦ elim (cases_Bool (is_of s f.value g)) [
      | inl hit ↦ absurd (other (sym e ∙ ap (λ (x : Held). x.seat) (only g at hit)))
      | inr miss ↦ subst (Contains (taken_seats cleared)) e (home-seat cleared g (member-filter kept st.homes g at (ap not miss)))
    ]
  ]

  -- its seat given back
  pub clear-table : with_free (table_of nodes st) h.seat.node h.seat.slot ≡ table_of nodes cleared
  clear-table = table-less nodes st h.seat (taken_seats cleared) other-left left-seat

module _ (s : StripeNo) (f : Fragment) where
  -- the home that a fragment's seat is of
  pub home-at : (homes : List Held) (o : Option Held) → home_of homes s f.value ≡ o → (seat : Seat) → option_map (λ h. h.seat) o ≡ Some seat
      → (h : Held) × (home_of homes s f.value ≡ Some h) × (h.seat ≡ seat)
  home-at homes None e seat at = absurd (cc)
  home-at homes (Some h) e seat at = (h, e, same_Some h.seat seat at)

  -- where a fragment has no home, none is taken out
  pub none-at : (hs : List Held) → option_map (λ h. h.seat) (home_of hs s f.value) ≡ None → filter (λ h. not (is_of s f.value h)) hs ≡ hs
  none-at [] e = refl
  none-at (h ∷ hs) e = elim (cases_Bool (is_of s f.value h)) [
    | inl hit ↦ absurd (let never : Some h.seat ≡ None = rw hit at e in cc)
    | inr miss ↦ rw miss (ap (λ xs. h ∷ xs) (none-at hs (rw miss at e)))
  ]

-- ---- what is kept then

module _ (st : State) (k : Store) (kept : IsOf st k) (s : StripeNo) (f : Fragment) where
  -- the home that the stripes show is one of the state
  pub home-kept : (seat : Seat) → (stored_in k.stripes).homes s f.value ≡ Some seat → (h : Held) × (home_of st.homes s f.value ≡ Some h) × (h.seat ≡ seat)
  home-kept seat is = home-at s f st.homes (home_of st.homes s f.value) refl seat (sym (ap (λ (t : Stored). t.homes s f.value) kept.stripes_is) ∙ is)

  -- the code that is kept has its fragment
  pub own-kept : (seat : Seat) → (stored_in k.stripes).homes s f.value ≡ Some seat → has_fragment ((stored_in k.stripes).code s) f.value ≡ true
  own-kept seat is =
      let home = home-kept seat is in
      ap (λ (t : Stored). has_fragment (t.code s) f.value) kept.stripes_is ∙ home-own k.topology st s f home.0 kept.seated home.1

  -- its seat is taken
  pub clear-taken : (seat : Seat) → (stored_in k.stripes).homes s f.value ≡ Some seat → (slots_of k.table).taken seat.node seat.slot ≡ true
  clear-taken seat is =
      let home = home-kept seat is in
      ap (λ (t : Slots). t.taken seat.node seat.slot) kept.table_is ∙ subst (λ (a : Seat). is_taken (taken_seats st) a.node a.slot ≡ true) home.2 (seat-there k.topology st s f home.0 kept.seated home.1)

  -- with the seat given back, the table is that of the state without the home
  pub free-kept : (seat : Seat) → (stored_in k.stripes).homes s f.value ≡ Some seat → (table : slots.Table)
      → slots_of table ≡ with_free (slots_of k.table) seat.node seat.slot → slots_of table ≡ kept_table k.topology (without_home st s f)
  free-kept seat is table freed =
      let nodes = k.topology in
      let home = home-kept seat is in
      freed ∙ ap (λ (t : Slots). with_free t seat.node seat.slot) kept.table_is
      ∙ subst (λ (a : Seat). with_free (kept_table nodes st) a.node a.slot ≡ kept_table nodes (without_home st s f)) home.2
      (clear-table nodes (without_upgrading st) s f home.0 (settled-seated nodes st kept.seated) home.1)

  -- with the home cleared and the seat given back, what is kept is that of the state without it
  pub clear-kept : (seat : Seat) → (stored_in k.stripes).homes s f.value ≡ Some seat → (table : slots.Table) (stripes : tables.Table)
      → slots_of table ≡ with_free (slots_of k.table) seat.node seat.slot → stored_in stripes ≡ stored.with_home (stored_in k.stripes) s f None → IsOf (without_home st s f) (record k { table = table; stripes = stripes })
  clear-kept seat is table stripes freed cleared =
      let nodes = k.topology in record {
        known = kept.known;
        seated = homes-seated nodes st (λ g. not (is_of s f.value g)) kept.seated;
        table_is = free-kept seat is table freed;
        stripes_is = cleared ∙ ap (λ (t : Stored). stored.with_home t s f None) kept.stripes_is ∙ stored-clear nodes st s f;
        leases_is = kept.leases_is;
        apart = kept.apart;
        upgrading_is = kept.upgrading_is;
        domains_are = kept.domains_are;
        clock_is = kept.clock_is;
      }

  -- a fragment without a home has none to clear
  pub clear-none : (stored_in k.stripes).homes s f.value ≡ None → IsOf (without_home st s f) k
  clear-none is =
      subst (λ (hs : List Held). IsOf (record st { homes = hs }) k) (sym (none-at s f st.homes (sym (ap (λ (t : Stored). t.homes s f.value) kept.stripes_is) ∙ is))) kept
