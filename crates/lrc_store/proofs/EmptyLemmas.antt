-- A node that is emptied: the leases on it end, and its homes are cleared with their fragments' leases, one after the other.
use Rattle.std.proofs.Common.{[], ◌≡◌, ℕ, ◌<◌, ◌&&◌, ◌||◌, arith, Bool, true, false, not, cond, nat_eq, eqb, List, ◌∷◌, filter, Option, Some, None, option_map, IsSome, refl, sym, ap, ◌∙◌, subst, inl, inr}
use Rattle.std.specs.List.{All, Contains, list_any}
use Rattle.std.specs.Option.{option_map_or}
use Rattle.std.proofs.lemmas.Bool.{cases_Bool, and_parts, and_right, false_from_ne_true, eqb-true, eq-eqb, not-true}
use Rattle.std.proofs.lemmas.List.Elements.{All-head, All-tail, All-weaker, All-filter}
use Rattle.lrc_code.specs.declared.numbers.StripeNo.{StripeNo}
use Rattle.lrc_code.specs.declared.numbers.NodeNo.{NodeNo}
use Rattle.lrc_code.specs.declared.numbers.Fragment.{Fragment}
use Rattle.lrc_topology.specs.declared.seat.Seat.{Seat}
use Rattle.lrc_topology.specs.declared.seat.Held.{Held}
use Rattle.lrc_topology.specs.Nodes.{node_at}
use Rattle.lrc_slots.specs.Slots.{Slots, load_at}
use Rattle.lrc_terms.specs.Levels.{home_of}
use Rattle.lrc_stripes.specs.Stored.{Stored, AreHomesOn, is_home_on}
use Rattle.lrc_terms.specs.Stripes.{StripeFragment}
use Rattle.lrc_terms.specs.declared.lease.Lease.{Lease}
use Rattle.lrc_terms.specs.Leased.{Leased, is_of, is_target_on, AreTargetsOn}
use Rattle.lrc_leases.specs.Tables.{leased_in}
use Rattle.lrc_terms.proofs.LeaseLemmas.{is_of-parts, is_of-from, contains-leases_in}
use Rattle.lrc_rules.specs.States.{State, has_stripe, is_home_of, taken_seats, lease_of}
use Rattle.lrc_rules.specs.Steps.{stands_on, hangs_on, emptied}
use Rattle.lrc_rules.specs.Changes.{without_targets}
use Rattle.lrc_rules.specs.Goodness.{AreSeated}
use Rattle.lrc_topology.specs.Seats.{load_of}
use Rattle.lrc_bars.specs.Ties.{table_of}
use Rattle.lrc_rules.proofs.MemberLemmas.{filter-member, list_any-All, list_any-member, All-members, Contains-here, Contains-later, not-Contains-nil}
use Rattle.lrc_slots.specs.Tables.{slots_of}
use Rattle.lrc_stripes.specs.Tables.{stored_in}
use Rattle.lrc_store.specs.declared.store.Store.{Store}
use Rattle.lrc_rules.specs.Leases.{without_lease}
use Rattle.lrc_store.proofs.FragmentLemmas.{bared}
use Rattle.lrc_store.proofs.EndLemmas.{lease-kept}
use Rattle.lrc_rules.proofs.TakenLemmas.{load-parts, count-held, count-targets}
use Rattle.lrc_store.specs.Stores.{IsOf}
use Rattle.lrc_store.proofs.ClearLemmas.{count-fewer, count-falls, only, stripe-there, home-kept}
use Rattle.lrc_rules.proofs.LookUpLemmas.{is_of as home_is, there-lease, only-lease, home-only, found-home}
use Rattle.lrc_bars.proofs.SlotTableLemmas.{load-falls}

-- the leases whose target is on the node, ended as far as this
pub record IsEnding (st : State) (n : NodeNo) (k : Store) : Type 0 where
  pub live : List Lease
  pub kept : IsOf (record st { leases = live }) k
  pub rest : filter (λ l. not (is_target_on n l)) live ≡ filter (λ l. not (is_target_on n l)) st.leases

-- the homes on the node, cleared as far as this, where no target is on it
pub record IsEmptying (st : State) (n : NodeNo) (k : Store) : Type 0 where
  pub held : List Held
  pub live : List Lease
  pub kept : IsOf (record st { homes = held; leases = live }) k
  pub apart : All (λ l. not (is_target_on n l) ≡ true) live
  pub rest : filter (λ h. not (stands_on n h)) held ≡ filter (λ h. not (stands_on n h)) st.homes
  pub left : filter (λ l. not (hangs_on (record st { homes = held }) n l)) live ≡ filter (λ l. not (hangs_on st n l)) st.leases

-- ---- lists

module _ {X : Type 0} (test kept : X → Bool) where
  -- what is left out before would be left out anyway
  pub filter-skips : (xs : List X) → ((x : X) → Contains xs x → kept x ≡ false → test x ≡ false) → filter test (filter kept xs) ≡ filter test xs
  filter-skips [] fails = refl
  filter-skips (x ∷ xs) fails =
      let more = filter-skips xs (λ y here. fails y (Contains-later x y xs here)) in
      elim (cases_Bool (kept x)) [
        | inl stays ↦ rw stays (ap (λ ys. cond (test x) (x ∷ ys) ys) more)
        | inr goes ↦ rw (goes, fails x (Contains-here x xs) goes) more
      ]

pub filter-whole : {X : Type 0} (test : X → Bool) (xs : List X) → All (λ x. test x ≡ true) xs → filter test xs ≡ xs
filter-whole test [] all = refl
filter-whole test (x ∷ xs) all = rw (All-head (λ y. test y ≡ true) x xs all) (ap (λ ys. x ∷ ys) (filter-whole test xs (All-tail (λ y. test y ≡ true) x xs all)))

-- tests that agree on what is kept
filter-on : {X : Type 0} (test other kept : X → Bool) (xs : List X) → ((x : X) → kept x ≡ true → test x ≡ other x) → filter test (filter kept xs) ≡ filter other (filter kept xs)
filter-on test other kept [] agree = refl
filter-on test other kept (x ∷ xs) agree = elim (cases_Bool (kept x)) [
  | inl stays ↦ rw (stays, agree x stays) (ap (λ ys. cond (other x) (x ∷ ys) ys) (filter-on test other kept xs agree))
  | inr goes ↦ rw goes (filter-on test other kept xs agree)
]

-- what is left out would not pass
any-skips : {X : Type 0} (test kept : X → Bool) (xs : List X) → ((x : X) → kept x ≡ false → test x ≡ false) → list_any test (filter kept xs) ≡ list_any test xs
any-skips test kept [] fails = refl
any-skips test kept (x ∷ xs) fails = elim (cases_Bool (kept x)) [
  | inl stays ↦ rw stays (ap (λ b. test x || b) (any-skips test kept xs fails))
  | inr goes ↦ rw (goes, fails x goes) (any-skips test kept xs fails)
]

pub not-false : (b : Bool) → not b ≡ false → b ≡ true
not-false true e = refl
not-false false e = sym e

-- the numbers of a home of the fragment
pub home_is-parts : (s : StripeNo) (f : ℕ) (h : Held) → home_is s f h ≡ true → (h.stripe.value ≡ s.value) × (h.fragment.value ≡ f)
home_is-parts s f h hit =
    let parts = and_parts (eqb h.stripe.value s.value) (eqb h.fragment.value f) hit in
    (eqb-true h.stripe.value s.value parts.0, eqb-true h.fragment.value f parts.1)

-- ---- the leases on the node

module _ (st : State) (n : NodeNo) (k : Store) (so_far : IsEnding st n k) where
  abbrev pub now : State
  now = record st { leases = so_far.live }

  module _ (l : Lease) (found : (leased_in k.leases).leases l.stripe l.fragment.value ≡ Some l) (on : is_target_on n l ≡ true) (k2 : Store) (same : k2.topology ≡ k.topology) (next : IsOf (without_lease now l.stripe l.fragment) k2) where
    live-is : lease_of now l.stripe l.fragment ≡ Some l
    live-is = sym (lease-kept now k so_far.kept l.stripe l.fragment) ∙ found

    -- one lease fewer
    pub ending-more : IsEnding st n k2
    ending-more = record {
      live = filter (λ m. not (is_of l.stripe l.fragment.value m)) so_far.live;
      kept = next;
      rest = filter-skips (λ m. not (is_target_on n m)) (λ m. not (is_of l.stripe l.fragment.value m)) so_far.live
          (λ m here goes. ap (λ (x : Lease). not (is_target_on n x)) (only-lease k.topology now l.stripe l.fragment l live-is so_far.kept.seated m here (not-false _ goes)) ∙ ap not on) ∙ so_far.rest;
    }

    pub ending-smaller : IsSome (node_at k.topology n) → load_at (slots_of k2.table) n < load_at (slots_of k.table) n
    ending-smaller known =
        rw (ap (λ (t : Slots). load_at t n) next.table_is, ap (λ (t : Slots). load_at t n) so_far.kept.table_is)
        (subst (λ ns. load_at (table_of ns (without_lease now l.stripe l.fragment)) n < load_at (table_of k.topology now) n) (sym same)
        (load-falls k.topology so_far.kept.known now (without_lease now l.stripe l.fragment) so_far.kept.seated (subst (λ ns. AreSeated ns (without_lease now l.stripe l.fragment)) same next.seated) n known falls))
      where
        falls : load_of (taken_seats (without_lease now l.stripe l.fragment)) n < load_of (taken_seats now) n
        falls =
            let there = there-lease k.topology now l.stripe l.fragment l live-is so_far.kept.seated in
            let before = load-parts now n in
            let after = load-parts (without_lease now l.stripe l.fragment) n in
            let all = count-targets so_far.live n in
            let left = count-targets (without_lease now l.stripe l.fragment).leases n in
            let fewer = count-falls (λ (m : Lease). nat_eq m.target.node.value n.value) (λ m. not (is_of l.stripe l.fragment.value m)) so_far.live l there.0 on (ap not there.1) in
            omega (arith, before, after, all, left, fewer)

  none-there : AreTargetsOn (leased_in k.leases) n [] → All (λ l. not (is_target_on n l) ≡ true) so_far.live
  none-there on = All-members (λ l. not (is_target_on n l) ≡ true) so_far.live (λ l here. elim (cases_Bool (is_target_on n l)) [
    | inr other ↦ ap not other
    | inl hit ↦
        let found = lease-kept now k so_far.kept l.stripe l.fragment ∙ contains-leases_in so_far.live l so_far.kept.seated.one_lease here in
        absurd (not-Contains-nil l ((on.each l).1 (found, hit)))
  ])

  -- none is left
  pub ending-end : AreTargetsOn (leased_in k.leases) n [] → IsOf (without_targets st n) k
  ending-end on =
      subst (λ (ls : List Lease). IsOf (record st { leases = ls }) k) (sym (filter-whole (λ l. not (is_target_on n l)) so_far.live (none-there on)) ∙ so_far.rest) so_far.kept

-- ---- the homes on it

-- at first no target is on it
pub emptying-start : (st : State) (n : NodeNo) (k : Store) → IsOf (without_targets st n) k → IsEmptying st n k
emptying-start st n k kept = record {
  held = st.homes;
  live = filter (λ l. not (is_target_on n l)) st.leases;
  kept = kept;
  apart = All-members (λ l. not (is_target_on n l) ≡ true) (filter (λ l. not (is_target_on n l)) st.leases) (λ l here. (filter-member (λ l. not (is_target_on n l)) st.leases l here).1);
  rest = refl;
  left = filter-skips (λ l. not (hangs_on st n l)) (λ l. not (is_target_on n l)) st.leases (λ l here goes. rw (not-false _ goes) refl);
}

module _ (st : State) (n : NodeNo) (k : Store) (so_far : IsEmptying st n k) where
  abbrev pub here : State
  here = record st { homes = so_far.held; leases = so_far.live }

  module _ (s : StripeNo) (f : Fragment) (first : (seat : Seat) × ((stored_in k.stripes).homes s f.value ≡ Some seat) × (eqb n.value seat.node.value ≡ true)) where
    home : (h : Held) × (home_of so_far.held s f.value ≡ Some h) × (h.seat ≡ first.0)
    home = home-kept here k so_far.kept s f first.0 first.1

    on-node : stands_on n home.0 ≡ true
    on-node = ap (λ (a : Seat). eqb n.value a.node.value) home.2 ∙ first.2

    there : Contains so_far.held home.0 × (home_is s f.value home.0 ≡ true)
    there = found-home here s f.value home.0 home.1

    pub emptying-stripe : has_stripe here s ≡ true
    emptying-stripe = stripe-there k.topology here s f home.0 so_far.kept.seated home.1

    abbrev pub stays : Lease → Bool
    stays l = not (is_of s f.value l)

    abbrev pub others : Held → Bool
    others h = not (is_home_of s f h)

    -- a home of a fragment whose lease stays is another's
    not-both : (l : Lease) (h : Held) → stays l ≡ true → others h ≡ false → (is_home_of l.stripe l.fragment h && stands_on n h) ≡ false
    not-both l h keeps goes =
        let mine = home_is-parts s f.value h (not-false _ goes) in
        false_from_ne_true (is_home_of l.stripe l.fragment h && stands_on n h) (λ hit. (
        let own = home_is-parts l.stripe l.fragment.value h (and_parts (is_home_of l.stripe l.fragment h) (stands_on n h) hit).0 in
        let both : true ≡ false = sym keeps ∙ ap not (is_of-from s f.value l (sym own.0 ∙ mine.0) (sym own.1 ∙ mine.1)) in cc))

    hangs-same : (l : Lease) → stays l ≡ true → hangs_on (record st { homes = filter others so_far.held }) n l ≡ hangs_on (record st { homes = so_far.held }) n l
    hangs-same l keeps = ap (λ b. is_target_on n l || b) (any-skips (λ h. is_home_of l.stripe l.fragment h && stands_on n h) others so_far.held (λ h goes. not-both l h keeps goes))

    hangs-own : (l : Lease) → is_of s f.value l ≡ true → hangs_on (record st { homes = so_far.held }) n l ≡ true
    hangs-own l hit =
        let parts = is_of-parts s f.value l hit in
        let mine = home_is-parts s f.value home.0 there.1 in
        let own : is_home_of l.stripe l.fragment home.0 ≡ true = rw (eq-eqb home.0.stripe.value l.stripe.value (mine.0 ∙ sym parts.0), eq-eqb home.0.fragment.value l.fragment.value (mine.1 ∙ sym parts.1)) refl in
        let some : list_any (λ h. is_home_of l.stripe l.fragment h && stands_on n h) so_far.held ≡ true =
        list_any-member (λ h. is_home_of l.stripe l.fragment h && stands_on n h) so_far.held home.0 there.0 (rw (own, on-node) refl) in
        ap (λ b. is_target_on n l || b) some ∙ or_true (is_target_on n l)
      where
        or_true : (b : Bool) → (b || true) ≡ true
        or_true true = refl
        or_true false = refl

    left-more : filter (λ l. not (hangs_on (record st { homes = filter others so_far.held }) n l)) (filter stays so_far.live) ≡ filter (λ l. not (hangs_on (record st { homes = so_far.held }) n l)) so_far.live
    left-more =
        filter-on (λ l. not (hangs_on (record st { homes = filter others so_far.held }) n l)) (λ l. not (hangs_on (record st { homes = so_far.held }) n l)) stays so_far.live (λ l keeps. ap not (hangs-same l keeps))
        ∙ filter-skips (λ l. not (hangs_on (record st { homes = so_far.held }) n l)) stays so_far.live (λ l at goes. ap not (hangs-own l (not-false _ goes)))

    module _ (k2 : Store) (same : k2.topology ≡ k.topology) (next : IsOf (bared here s f) k2) where
      -- one home fewer
      pub emptying-more : IsEmptying st n k2
      emptying-more = record {
        held = filter others so_far.held;
        live = filter stays so_far.live;
        kept = next;
        apart = All-filter stays (λ l. not (is_target_on n l) ≡ true) so_far.live so_far.apart;
        rest = filter-skips (λ g. not (stands_on n g)) others so_far.held
            (λ g at goes. ap (λ (x : Held). not (stands_on n x)) (only k.topology here s f home.0 so_far.kept.seated home.1 g at (not-false _ goes)) ∙ ap not on-node) ∙ so_far.rest;
        left = left-more ∙ so_far.left;
      }

      pub emptying-smaller : IsSome (node_at k.topology n) → load_at (slots_of k2.table) n < load_at (slots_of k.table) n
      emptying-smaller known =
          rw (ap (λ (t : Slots). load_at t n) next.table_is, ap (λ (t : Slots). load_at t n) so_far.kept.table_is)
          (subst (λ ns. load_at (table_of ns (bared here s f)) n < load_at (table_of k.topology here) n) (sym same)
          (load-falls k.topology so_far.kept.known here (bared here s f) so_far.kept.seated (subst (λ ns. AreSeated ns (bared here s f)) same next.seated) n known falls))
        where
          falls : load_of (taken_seats (bared here s f)) n < load_of (taken_seats here) n
          falls =
              let before = load-parts here n in
              let after = load-parts (bared here s f) n in
              let all = count-held so_far.held n in
              let left = count-held (filter others so_far.held) n in
              let fewer = count-falls (λ (g : Held). nat_eq g.seat.node.value n.value) others so_far.held home.0 there.0 (eq-eqb home.0.seat.node.value n.value (sym (eqb-true n.value home.0.seat.node.value on-node))) (ap not there.1) in
              let all_too = count-targets so_far.live n in
              let left_too = count-targets (filter stays so_far.live) n in
              let no_more = count-fewer (λ (m : Lease). nat_eq m.target.node.value n.value) stays so_far.live in
              omega (arith, before, after, all, left, fewer, all_too, left_too, no_more)

  -- with no home left on the node
  none-left : AreHomesOn (stored_in k.stripes) n [] → All (λ h. not (stands_on n h) ≡ true) so_far.held
  none-left on = All-members (λ h. not (stands_on n h) ≡ true) so_far.held (λ h at. elim (cases_Bool (stands_on n h)) [
    | inr other ↦ rw other refl
    | inl hit ↦
        let own : home_of so_far.held h.stripe h.fragment.value ≡ Some h = home-only so_far.held so_far.kept.seated.one_home h at in
        let shown : (stored_in k.stripes).homes h.stripe h.fragment.value ≡ Some h.seat =
        ap (λ (t : Stored). t.homes h.stripe h.fragment.value) so_far.kept.stripes_is ∙ ap (option_map (λ (g : Held). g.seat)) own in
        let is : is_home_on (stored_in k.stripes) n (h.stripe, h.fragment) ≡ true = ap (λ (o : Option Seat). option_map_or (λ seat. nat_eq n.value seat.node.value) o false) shown ∙ hit in
        absurd (not-Contains-nil (h.stripe, h.fragment) ((on.each (h.stripe, h.fragment)).1 is))
  ])

  -- no lease hangs on it
  none-hangs : AreHomesOn (stored_in k.stripes) n [] → All (λ l. not (hangs_on (record st { homes = so_far.held }) n l) ≡ true) so_far.live
  none-hangs on =
      All-weaker (λ l. not (is_target_on n l) ≡ true) (λ l. not (hangs_on (record st { homes = so_far.held }) n l) ≡ true)
      (λ l apart. rw (
        not-true _ apart,
        list_any-All (λ h. is_home_of l.stripe l.fragment h && stands_on n h) so_far.held
            (All-weaker (λ h. not (stands_on n h) ≡ true) (λ h. (is_home_of l.stripe l.fragment h && stands_on n h) ≡ false) (λ h off. rw (not-true _ off) (and_right (is_home_of l.stripe l.fragment h) false refl)) so_far.held (none-left on)),
      ) refl)
      so_far.live so_far.apart

  -- the node is empty
  pub emptying-end : AreHomesOn (stored_in k.stripes) n [] → IsOf (emptied st n) k
  emptying-end on =
      subst (λ (ls : List Lease). IsOf (record st { homes = filter (λ h. not (stands_on n h)) st.homes; leases = ls }) k)
      (sym (filter-whole (λ l. not (hangs_on (record st { homes = so_far.held }) n l)) so_far.live (none-hangs on)) ∙ so_far.left)
      (subst (λ (hs : List Held). IsOf (record st { homes = hs; leases = so_far.live }) k) (sym (filter-whole (λ h. not (stands_on n h)) so_far.held (none-left on)) ∙ so_far.rest) so_far.kept)

-- ---- the walk

-- the first of the homes on the node is one
pub first-on : (t : Stored) (n : NodeNo) (places rest : List StripeFragment) (s : StripeNo) (f : Fragment) → AreHomesOn t n places → places ≡ (s, f) ∷ rest
    → (seat : Seat) × (t.homes s f.value ≡ Some seat) × (eqb n.value seat.node.value ≡ true)
first-on t n places rest s f on e =
    let here : Contains places (s, f) = subst (λ (ps : List StripeFragment). Contains ps (s, f)) (sym e) (Contains-here (s, f) rest) in
    by (t.homes s f.value) refl ((on.each (s, f)).0 here)
  where
    by : (o : Option Seat) → t.homes s f.value ≡ o → option_map_or (λ seat. nat_eq n.value seat.node.value) o false ≡ true → (seat : Seat) × (t.homes s f.value ≡ Some seat) × (eqb n.value seat.node.value ≡ true)
    by (Some seat) is hit = (seat, is, hit)
    by None is hit = absurd (let both : false ≡ true = hit in cc)

-- so is the first of the leases on it
pub first-target : (t : Leased) (n : NodeNo) (ls rest : List Lease) (l : Lease) → AreTargetsOn t n ls → ls ≡ l ∷ rest → (t.leases l.stripe l.fragment.value ≡ Some l) × (is_target_on n l ≡ true)
first-target t n ls rest l on e = (on.each l).0 (subst (λ (xs : List Lease). Contains xs l) (sym e) (Contains-here l rest))
