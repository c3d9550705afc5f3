-- A command changes exactly the fragments that it touches.
use Rattle.std.proofs.Common.{◌≡◌, ◌≢◌, ◌+◌, Bool, true, false, not, ◌&&◌, ◌||◌, if◌then◌else◌, nat_lt, eqb, List, [], ◌∷◌, filter, find, length, Option, Some, None, is_some, refl, sym, ap, ap₂, ◌∙◌, subst, inl, inr, arith}
use Rattle.std.specs.Prelude.{slice_get}
use Rattle.std.specs.List.{list_any}
use Rattle.std.specs.Option.{option_map_or}
use Rattle.std.proofs.lemmas.Map.Entries.{option_filter}
use Rattle.std.proofs.lemmas.Bool.{cases_Bool, eqb-true, eq-eqb, and_parts, and_from, lt-ltb, le-ltb, eqb-false}
use Rattle.std.proofs.lemmas.Option.{slice_get_cases}
use Rattle.lrc_code.specs.declared.codes.Code.{Code}
use Rattle.lrc_code.specs.declared.numbers.StripeNo.{StripeNo}
use Rattle.lrc_code.specs.declared.numbers.NodeNo.{NodeNo}
use Rattle.lrc_code.specs.declared.numbers.Fragment.{Fragment}
use Rattle.lrc_code.specs.Codes.{fragments}
use Rattle.lrc_code.specs.Numbers.{same_stripe, same_fragment}
use Rattle.lrc_code.proofs.NumbersLemmas.{equal_stripes, equal_fragments}
use Rattle.lrc_topology.specs.declared.NodeInfo.{NodeInfo}
use Rattle.lrc_topology.specs.declared.seat.Seat.{Seat}
use Rattle.lrc_topology.specs.declared.seat.Held.{Held}
use Rattle.lrc_terms.specs.Levels.{home_of, homes_of}
use Rattle.lrc_terms.specs.declared.lease.Lease.{Lease as LeaseRecord}
use Rattle.lrc_terms.specs.Leased.{Leased, ends_at}
use Rattle.lrc_terms.specs.Stripes.{StripeFragment}
use Rattle.lrc_terms.proofs.LeaseLemmas.{leased_of-append, leased_of-less, leases_in-less_stripe, leases_in-filter, leases_in-own}
use Rattle.lrc_rules.specs.declared.node_command.NodeCommand.TheVariants as node
use Rattle.lrc_rules.specs.States.{State, has_stripe, lease_of, is_home_of}
use Rattle.lrc_rules.specs.Goodness.{AreSeated}
use Rattle.lrc_rules.specs.Steps.{stands_on, hangs_on, without_stripe, changed_on}
use Rattle.lrc_rules.specs.Leases.{with_lease, without_lease, moved_in, ticked}
use Rattle.lrc_rules.specs.Changes.{held_at, with_placed}
use Rattle.lrc_rules.proofs.MemberLemmas.{find-member, filter-member, member-list_any}
use Rattle.lrc_rules.proofs.PlacedHomesLemmas.{none-added, before-none, after-none, homes-append, numbered-homes, fragments-numbered}
use Rattle.lrc_rules.proofs.LookUpLemmas.{is_of, seat_in, no_home, home-only, homes-without}
use Rattle.lrc_rules.proofs.MovedLemmas.{done-homes}
use Rattle.lrc_rules.proofs.ToldLemmas.{ArePlaced}
use Rattle.lrc_rules.proofs.LawLemmas.{chosen-length}
use Rattle.lrc_changes.specs.Changes.{own_home, own_lease, is_changed}
use Rattle.lrc_changes.specs.Touched.{has_seat_on, hangs_over, ends}
use Rattle.lrc_changes.proofs.SameLemmas.{stays, differs}

-- what a search finds stays, if it is not bad
find-stays : {X : Type 0} (test bad : X → Bool) (xs : List X) → option_map_or bad (find test xs) false ≡ false
    → find test (filter (λ x. not (bad x)) xs) ≡ find test xs
find-stays test bad [] clear = refl
find-stays test bad (x ∷ xs) clear = elim (cases_Bool (test x)) [
  | inl hit ↦ let good : bad x ≡ false = rw hit at clear in rw (good, hit) refl
  | inr miss ↦
      let rest = find-stays test bad xs (rw miss at clear) in
      elim (cases_Bool (bad x)) [
        | inl goes ↦ rw (goes, miss) rest
        | inr stays ↦ rw (stays, miss) rest
      ]
]

no-seat : (o : Option Held) → o ≡ None → seat_in o ≡ None
no-seat None e = refl
no-seat (Some h) e = absurd (cc)

not-both : {X : Type 0} {x : X} {o : Option X} → o ≡ Some x → o ≡ None → ⊥
not-both some none = (let both = sym some ∙ none in cc)

-- ---- a stripe that is placed

module _ (nodes : List NodeInfo) (st : State) (p : StripeFragment) (seated : AreSeated nodes st) (code : Code) (s : StripeNo) (seats : List Seat)
    (made : ArePlaced nodes st code s seats) where
  abbrev next : State
  next = with_placed st code s seats

  abbrev added : List Held
  added = held_at s (fragments code) seats

  long : length seats ≡ length (fragments code)
  long = chosen-length nodes _ s (fragments code) seats made.chosen_are

  other-home : same_stripe s p.0 ≡ false → own_home next p ≡ own_home st p
  other-home other =
      ap seat_in (homes-append st.homes added p.0 p.1.value
      ∙ before-none (home_of st.homes p.0 p.1.value) (home_of added p.0 p.1.value)
      (none-added s p.0 (fragments code) seats p.1.value (λ same. eqb-false s.value p.0.value other (ap (λ (t : StripeNo). t.value) (sym same)))))

  module _ (own : s ≡ p.0) where
    none-there : home_of st.homes p.0 p.1.value ≡ None
    none-there = no_home nodes st p.0 p.1.value seated (subst (λ (t : StripeNo). has_stripe st t ≡ false) own made.absent)

    new-home : own_home next p ≡ slice_get seats p.1.value
    new-home =
        ap seat_in (homes-append st.homes added p.0 p.1.value ∙ after-none (home_of st.homes p.0 p.1.value) (home_of added p.0 p.1.value) none-there)
        ∙ ap (λ (t : StripeNo). homes_of added t p.1.value) (sym own)
        ∙ numbered-homes s 0 (fragments code) seats p.1.value p.1.value (fragments-numbered code) long (omega arith)

    no-home : own_home st p ≡ None
    no-home = no-seat (home_of st.homes p.0 p.1.value) none-there

    own-right : is_changed st next p ≡ nat_lt p.1.value (length (fragments code))
    own-right = elim ((slice_get_cases seats p.1.value).1) [
      | inl here ↦
          let (x, within, got, read) = here in
          differs st next p (λ home lease. not-both (new-home ∙ got) (sym home ∙ no-home))
          ∙ sym (lt-ltb p.1.value (length (fragments code)) (omega (arith, within, long)))
      | inr past ↦
          stays st next p (no-home ∙ sym (new-home ∙ past.1)) refl ∙ sym (le-ltb p.1.value (length (fragments code)) (omega (arith, past.0, long)))
    ]

  pub placed-right : is_changed st next p ≡ (same_stripe s p.0 && nat_lt p.1.value (length (fragments code)))
  placed-right = by (same_stripe s p.0) refl where
    by : (b : Bool) → same_stripe s p.0 ≡ b → is_changed st next p ≡ (b && nat_lt p.1.value (length (fragments code)))
    by true own = own-right (equal_stripes s p.0 (eqb-true _ _ own))
    by false other = stays st next p (sym (other-home other)) refl

-- ---- a stripe that is dropped

module _ (st : State) (p : StripeFragment) (s : StripeNo) where
  left-home : own_home (without_stripe st s) p ≡ (if same_stripe s p.0 then None else own_home st p)
  left-home = homes-without st s p.0 p.1.value

  left-lease : own_lease (without_stripe st s) p ≡ (if same_stripe s p.0 then None else own_lease st p)
  left-lease = leases_in-less_stripe st.leases s p.0 p.1.value

  pub dropped-right : is_changed st (without_stripe st s) p ≡ (same_stripe s p.0 && (is_some (own_home st p) || is_some (own_lease st p)))
  dropped-right = by (same_stripe s p.0) refl where
    own-by : same_stripe s p.0 ≡ true → (h : Option Seat) (l : Option LeaseRecord) → own_home st p ≡ h → own_lease st p ≡ l
        → is_changed st (without_stripe st s) p ≡ (is_some h || is_some l)
    own-by own None None home lease =
        stays st (without_stripe st s) p (home ∙ sym (left-home ∙ rw own refl)) (lease ∙ sym (left-lease ∙ rw own refl))
    own-by own None (Some l) home lease = differs st (without_stripe st s) p (λ h k. not-both lease (k ∙ left-lease ∙ rw own refl))
    own-by own (Some x) l home lease = differs st (without_stripe st s) p (λ h k. not-both home (h ∙ left-home ∙ rw own refl))

    by : (b : Bool) → same_stripe s p.0 ≡ b → is_changed st (without_stripe st s) p ≡ (b && (is_some (own_home st p) || is_some (own_lease st p)))
    by true own = own-by own (own_home st p) (own_lease st p) refl refl
    by false other = stays st (without_stripe st s) p (sym (left-home ∙ rw other refl)) (sym (left-lease ∙ rw other refl))

-- ---- a lease that is granted

module _ (st : State) (p : StripeFragment) where
  at-place : (P : StripeNo → Fragment → Type 0) (s : StripeNo) (f : Fragment) → (same_stripe s p.0 && same_fragment f p.1) ≡ true → P s f → P p.0 p.1
  at-place P s f hit here =
      let parts = and_parts (eqb s.value p.0.value) (eqb f.value p.1.value) hit in
      subst (λ (g : Fragment). P p.0 g) (equal_fragments f p.1 (eqb-true _ _ parts.1))
      (subst (λ (r : StripeNo). P r f) (equal_stripes s p.0 (eqb-true _ _ parts.0)) here)

  pub granted-right : (l : LeaseRecord) → lease_of st l.stripe l.fragment ≡ None
      → is_changed st (with_lease st l) p ≡ (same_stripe l.stripe p.0 && same_fragment l.fragment p.1)
  granted-right l none = by (same_stripe l.stripe p.0 && same_fragment l.fragment p.1) refl where
    now-leased : own_lease (with_lease st l) p ≡ (if same_stripe l.stripe p.0 && same_fragment l.fragment p.1 then Some l else own_lease st p)
    now-leased = ap (λ (t : Leased). t.leases p.0 p.1.value) (leased_of-append st.leases l 0 none)

    by : (b : Bool) → (same_stripe l.stripe p.0 && same_fragment l.fragment p.1) ≡ b → is_changed st (with_lease st l) p ≡ b
    by true hit =
        differs st (with_lease st l) p
        (λ home lease. not-both {x = l} (lease ∙ now-leased ∙ rw hit refl) (at-place (λ (s : StripeNo) (f : Fragment). lease_of st s f ≡ None) l.stripe l.fragment hit none))
    by false miss = stays st (with_lease st l) p refl (sym (now-leased ∙ rw miss refl))

  -- ---- a lease that ends

  module _ (s : StripeNo) (f : Fragment) (l : LeaseRecord) (live : lease_of st s f ≡ Some l) where
    now-let_go : own_lease (without_lease st s f) p ≡ (if same_stripe s p.0 && same_fragment f p.1 then None else own_lease st p)
    now-let_go = ap (λ (t : Leased). t.leases p.0 p.1.value) (leased_of-less st.leases s f 0)

    was-live : (same_stripe s p.0 && same_fragment f p.1) ≡ true → own_lease st p ≡ Some l
    was-live hit = at-place (λ (r : StripeNo) (g : Fragment). lease_of st r g ≡ Some l) s f hit live

    pub let_go-right : is_changed st (without_lease st s f) p ≡ (same_stripe s p.0 && same_fragment f p.1)
    let_go-right = by (same_stripe s p.0 && same_fragment f p.1) refl where
      by : (b : Bool) → (same_stripe s p.0 && same_fragment f p.1) ≡ b → is_changed st (without_lease st s f) p ≡ b
      by true hit = differs st (without_lease st s f) p (λ home lease. not-both (was-live hit) (lease ∙ now-let_go ∙ rw hit refl))
      by false miss = stays st (without_lease st s f) p refl (sym (now-let_go ∙ rw miss refl))

    pub moved-right : is_changed st (moved_in st s f l.target) p ≡ (same_stripe s p.0 && same_fragment f p.1)
    moved-right = by (same_stripe s p.0 && same_fragment f p.1) refl where
      apart : (same_stripe s p.0 && same_fragment f p.1) ≡ false → p.0 ≡ s → p.1 ≢ f
      apart miss stripe fragment =
          let hit : (same_stripe s p.0 && same_fragment f p.1) ≡ true = and_from _ _ (eq-eqb s.value p.0.value (ap (λ (t : StripeNo). t.value) (sym stripe)))
          (eq-eqb f.value p.1.value (ap (λ (g : Fragment). g.value) (sym fragment))) in
          (let both : true ≡ false = sym hit ∙ miss in cc)

      by : (b : Bool) → (same_stripe s p.0 && same_fragment f p.1) ≡ b → is_changed st (moved_in st s f l.target) p ≡ b
      by true hit = differs st (moved_in st s f l.target) p (λ home lease. not-both (was-live hit) (lease ∙ now-let_go ∙ rw hit refl))
      by false miss =
          stays st (moved_in st s f l.target) p (sym (done-homes st s p.0 f p.1 (apart miss) (Some l))) (sym (now-let_go ∙ rw miss refl))

-- ---- leases that end at a clock, and a node that fails

module _ (st : State) (p : StripeFragment) (one : (keep : LeaseRecord → Bool) → lease_of (record st { leases = filter keep st.leases }) p.0 p.1 ≡ option_filter keep (own_lease st p)) where
  pub ticked-right : is_changed st (ticked st) p ≡ ends (st.clock + 1) (own_lease st p)
  ticked-right = by (own_lease st p) refl where
    keep : LeaseRecord → Bool
    keep l = not (ends_at (st.clock + 1) l)

    by-end : (l : LeaseRecord) → own_lease st p ≡ Some l → (b : Bool) → ends_at (st.clock + 1) l ≡ b → is_changed st (ticked st) p ≡ b
    by-end l is true hit = differs st (ticked st) p (λ home lease. not-both is (lease ∙ one keep ∙ ap (option_filter keep) is ∙ rw hit refl))
    by-end l is false miss = stays st (ticked st) p refl (sym (one keep ∙ ap (option_filter keep) is ∙ rw miss (sym is)))

    by : (o : Option LeaseRecord) → own_lease st p ≡ o → is_changed st (ticked st) p ≡ ends (st.clock + 1) o
    by None is = stays st (ticked st) p refl (sym (one keep ∙ ap (option_filter keep) is ∙ sym is))
    by (Some l) is = by-end l is (ends_at (st.clock + 1) l) refl

module _ (nodes : List NodeInfo) (st : State) (p : StripeFragment) (seated : AreSeated nodes st) (n : NodeNo) where
  abbrev emptied-state : State
  emptied-state = changed_on node.Fail st n

  on-seat : (o : Option Held) → has_seat_on n (seat_in o) ≡ option_map_or (stands_on n) o false
  on-seat None = refl
  on-seat (Some h) = refl

  home-stays : has_seat_on n (own_home st p) ≡ false → own_home emptied-state p ≡ own_home st p
  home-stays off = ap seat_in (find-stays (is_of p.0 p.1.value) (stands_on n) st.homes (sym (on-seat (home_of st.homes p.0 p.1.value)) ∙ off))

  -- no home is left on the node
  home-off : (o : Option Held) → home_of emptied-state.homes p.0 p.1.value ≡ o → has_seat_on n (seat_in o) ≡ false
  home-off None is = refl
  home-off (Some h) is =
      let m = find-member (is_of p.0 p.1.value) emptied-state.homes h is in
      let kept = (filter-member (λ (g : Held). not (stands_on n g)) st.homes h m.0).1 in
      by (stands_on n h) kept
    where
      by : (b : Bool) → not b ≡ true → b ≡ false
      by true e = absurd (let both : false ≡ true = e in cc)
      by false e = refl

  -- ---- its lease

  abbrev keep : LeaseRecord → Bool
  keep l = not (hangs_on st n l)

  lease-left : own_lease emptied-state p ≡ option_filter keep (own_lease st p)
  lease-left = leases_in-filter keep st.leases p.0 p.1.value seated.one_lease

  abbrev is_own : LeaseRecord → Held → Bool
  is_own l h = is_home_of l.stripe l.fragment h && stands_on n h

  none-own : (l : LeaseRecord) → own_lease st p ≡ Some l → has_seat_on n (own_home st p) ≡ false → (b : Bool) → list_any (is_own l) st.homes ≡ b → b ≡ false
  none-own l is off false e = refl
  none-own l is off true e =
      let m = member-list_any (is_own l) st.homes e in
      let h = m.0 in
      let parts = and_parts (is_home_of l.stripe l.fragment h) (stands_on n h) m.2 in
      let own = and_parts (eqb h.stripe.value l.stripe.value) (eqb h.fragment.value l.fragment.value) parts.0 in
      let place = leases_in-own st.leases p.0 p.1.value l is in
      let stripe : h.stripe ≡ p.0 = equal_stripes h.stripe p.0 (eqb-true _ _ own.0 ∙ ap (λ (t : StripeNo). t.value) place.0) in
      let fragment : h.fragment.value ≡ p.1.value = eqb-true h.fragment.value l.fragment.value own.1 ∙ place.1 in
      let found : home_of st.homes p.0 p.1.value ≡ Some h =
      ap (λ (r : StripeNo). home_of st.homes r p.1.value) (sym stripe) ∙ ap (home_of st.homes h.stripe) (sym fragment)
      ∙ home-only st.homes seated.one_home h m.1 in
      (let both : true ≡ false = sym parts.1 ∙ sym (ap (λ (o : Option Held). has_seat_on n (seat_in o)) found) ∙ off in cc)

  lease-stays : (o : Option LeaseRecord) → own_lease st p ≡ o → has_seat_on n (own_home st p) ≡ false → hangs_over n o ≡ false
      → own_lease emptied-state p ≡ own_lease st p
  lease-stays None is off clear = lease-left ∙ ap (option_filter keep) is ∙ sym is
  lease-stays (Some l) is off clear =
      let own = none-own l is off (list_any (is_own l) st.homes) refl in
      let stays : hangs_on st n l ≡ false = ap₂ (λ (a b : Bool). a || b) clear own in
      lease-left ∙ ap (option_filter keep) is ∙ rw stays (sym is)

  lease-goes : (o : Option LeaseRecord) → own_lease st p ≡ o → hangs_over n o ≡ true → own_lease st p ≡ own_lease emptied-state p → ⊥
  lease-goes None is hit same = (let both : true ≡ false = sym hit in cc)
  lease-goes (Some l) is hit same =
      let goes : hangs_on st n l ≡ true = ap (λ (a : Bool). a || list_any (is_own l) st.homes) hit in
      not-both is (same ∙ lease-left ∙ ap (option_filter keep) is ∙ rw goes refl)

  pub failed-right : is_changed st emptied-state p ≡ (has_seat_on n (own_home st p) || hangs_over n (own_lease st p))
  failed-right = by (has_seat_on n (own_home st p)) (hangs_over n (own_lease st p)) refl refl where
    by : (a b : Bool) → has_seat_on n (own_home st p) ≡ a → hangs_over n (own_lease st p) ≡ b → is_changed st emptied-state p ≡ (a || b)
    by true b on over =
        differs st emptied-state p (λ home lease.
        (let both : true ≡ false = sym on ∙ ap (has_seat_on n) home ∙ home-off (home_of emptied-state.homes p.0 p.1.value) refl in cc))
    by false true off over = differs st emptied-state p (λ home lease. lease-goes (own_lease st p) refl over lease)
    by false false off over = stays st emptied-state p (sym (home-stays off)) (sym (lease-stays (own_lease st p) refl off over))
