-- The home and the lease that are found for a fragment.
use Rattle.std.proofs.Common.{◌≡◌, ◌≢◌, ℕ, Bool, true, false, not, if◌then◌else◌, ◌&&◌, nat_eq, eqb, List, [], ◌∷◌, map, filter, find, Option, Some, None, option_map, refl, sym, ap, ◌∙◌, subst, inl, inr}
use Rattle.std.specs.List.{AllPairs, Contains}
use Rattle.std.specs.Option.{option_or}
use Rattle.std.proofs.lemmas.Bool.{cases_Bool, eqb-true, eq-eqb, ne_eqb, eqb-false, and_parts}
use Rattle.std.proofs.lemmas.List.Elements.{All-contains, Contains-append_left, Contains-append_right}
use Rattle.std.proofs.lemmas.List.Folds.{find-append}
use Rattle.lrc_code.specs.declared.numbers.StripeNo.{StripeNo}
use Rattle.lrc_code.specs.declared.numbers.Fragment.{Fragment}
use Rattle.lrc_code.specs.Codes.{has_fragment}
use Rattle.lrc_code.specs.Numbers.{same_stripe}
use Rattle.lrc_code.proofs.NumbersLemmas.{equal_fragments, equal_stripes}
use Rattle.lrc_topology.specs.declared.NodeInfo.{NodeInfo}
use Rattle.lrc_topology.specs.declared.seat.Seat.{Seat}
use Rattle.lrc_topology.specs.declared.seat.Held.{Held}
use Rattle.lrc_terms.specs.Levels.{home_of, homes_of}
use Rattle.lrc_terms.specs.declared.lease.Lease.{Lease}
use Rattle.lrc_terms.specs.Leased as leased
use Rattle.lrc_terms.proofs.LeaseLemmas.{find-some, is_of-parts, contains-leases_in}
use Rattle.lrc_rules.specs.States.{State, has_stripe, code_of, held_by, seats_of, lease_of}
use Rattle.lrc_rules.specs.Placement.{with_home}
use Rattle.lrc_rules.specs.Leases.{without_home}
use Rattle.lrc_rules.specs.Steps.{is_other, without_stripe}
use Rattle.lrc_rules.specs.Goodness.{AreSeated}
use Rattle.lrc_rules.proofs.MemberLemmas.{find-member, map-member, Contains-cases, not-Contains-nil, list_any-member, member-list_any, AllPairs-head, AllPairs-tail}

-- a stripe that the test finds is in the list
pub stripe-there : (st : State) (s : StripeNo) → has_stripe st s ≡ true → Contains st.stripes s
stripe-there st s e =
    let m = member-list_any (same_stripe s) st.stripes e in subst (Contains st.stripes) (sym (equal_stripes s m.0 (eqb-true _ _ m.2))) m.1

-- ---- searches in filtered lists

module _ {X : Type 0} (test kept : X → Bool) where
  -- a filter that keeps all that the search could find
  pub find-kept : ((x : X) → test x ≡ true → kept x ≡ true) → (xs : List X) → find test (filter kept xs) ≡ find test xs
  find-kept keeps [] = refl
  find-kept keeps (x ∷ xs) = elim (cases_Bool (kept x)) [
    | inl stays ↦ rw stays (ap (λ o. if test x then Some x else o) (find-kept keeps xs))
    | inr goes ↦ elim (cases_Bool (test x)) [
      | inl hit ↦ absurd (let both : true ≡ false = sym (keeps x hit) ∙ goes in cc)
      | inr miss ↦ rw (goes, miss) (find-kept keeps xs)
    ]
  ]

  -- a filter that keeps nothing that the search could find
  pub find-gone : ((x : X) → test x ≡ true → kept x ≡ false) → (xs : List X) → find test (filter kept xs) ≡ None
  find-gone drops [] = refl
  find-gone drops (x ∷ xs) = elim (cases_Bool (kept x)) [
    | inr goes ↦ rw goes (find-gone drops xs)
    | inl stays ↦ elim (cases_Bool (test x)) [
      | inl hit ↦ absurd (let both : true ≡ false = sym stays ∙ drops x hit in cc)
      | inr miss ↦ rw (stays, miss) (find-gone drops xs)
    ]
  ]

pub test-sym : (a b : ℕ) → eqb a b ≡ eqb b a
test-sym a b = elim (cases_Bool (eqb a b)) [
  | inl same ↦ same ∙ sym (eq-eqb b a (sym (eqb-true a b same)))
  | inr other ↦ other ∙ sym (ne_eqb b a (λ e. eqb-false a b other (sym e)))
]

-- ---- homes

-- the home is of this fragment
abbrev pub is_of : StripeNo → ℕ → Held → Bool
is_of s f h = nat_eq h.stripe.value s.value && nat_eq h.fragment.value f

abbrev pub seat_in : Option Held → Option Seat
seat_in o = option_map (λ h. h.seat) o

-- the home that is found for a fragment is one of its homes
pub found-home : (st : State) (s : StripeNo) (f : ℕ) (h : Held) → home_of st.homes s f ≡ Some h → Contains st.homes h × (is_of s f h ≡ true)
found-home st s f h e = let m = find-member (is_of s f) st.homes h e in (m.0, m.1)

-- if each fragment has at most one home, each home is found
pub home-only : (homes : List Held) → AllPairs (λ h g. h.stripe ≡ g.stripe → h.fragment ≢ g.fragment) homes → (h : Held) → Contains homes h → home_of homes h.stripe h.fragment.value ≡ Some h
home-only [] single h here = absurd (not-Contains-nil h here)
home-only (x ∷ xs) single h here = elim (Contains-cases x h xs here) [
  | inl same ↦ subst (λ (g : Held). home_of (x ∷ xs) g.stripe g.fragment.value ≡ Some g) same (rw (eq-eqb x.stripe.value x.stripe.value refl, eq-eqb x.fragment.value x.fragment.value refl) refl)
  | inr more ↦
      let apart = All-contains (λ g. x.stripe ≡ g.stripe → x.fragment ≢ g.fragment) xs h (AllPairs-head (λ h g. h.stripe ≡ g.stripe → h.fragment ≢ g.fragment) x xs single) more in
      elim (cases_Bool (is_of h.stripe h.fragment.value x)) [
        | inl hit ↦
            let parts = and_parts (eqb x.stripe.value h.stripe.value) (eqb x.fragment.value h.fragment.value) hit in
            absurd (apart (equal_stripes x.stripe h.stripe (eqb-true _ _ parts.0)) (equal_fragments x.fragment h.fragment (eqb-true _ _ parts.1)))
        | inr miss ↦ rw miss (home-only xs (AllPairs-tail (λ h g. h.stripe ≡ g.stripe → h.fragment ≢ g.fragment) x xs single) h more)
      ]
]

module _ (nodes : List NodeInfo) (st : State) (s : StripeNo) (f : ℕ) (seated : AreSeated nodes st) (absent : has_stripe st s ≡ false) where
  no_home-by : (o : Option Held) → home_of st.homes s f ≡ o → o ≡ None
  no_home-by None e = refl
  no_home-by (Some h) e =
      let m = found-home st s f h e in
      let there : Contains st.stripes h.stripe = All-contains (λ (h : Held). Contains st.stripes h.stripe) (seats_of st) h seated.there (Contains-append_left st.homes (map held_by st.leases) h m.0) in
      let same : s.value ≡ h.stripe.value = sym (eqb-true h.stripe.value s.value (and_parts (eqb h.stripe.value s.value) (eqb h.fragment.value f) m.1).0) in
      let hit : has_stripe st s ≡ true = list_any-member (λ (u : StripeNo). eqb s.value u.value) st.stripes h.stripe there (eq-eqb s.value h.stripe.value same) in
      absurd (let both : true ≡ false = sym hit ∙ absent in cc)

  -- a stripe that the store lacks has no homes
  pub no_home : home_of st.homes s f ≡ None
  no_home = no_home-by (home_of st.homes s f) refl

-- the fragment of a home that is found is one of the stripe's code
pub home-own : (nodes : List NodeInfo) (st : State) (s : StripeNo) (f : Fragment) (h : Held) → AreSeated nodes st → home_of st.homes s f.value ≡ Some h
    → has_fragment (code_of st s) f.value ≡ true
home-own nodes st s f h good found =
    let there = found-home st s f.value h found in
    let parts = and_parts (eqb h.stripe.value s.value) (eqb h.fragment.value f.value) there.1 in
    subst (λ (g : Fragment). has_fragment (code_of st s) g.value ≡ true) (equal_fragments h.fragment f (eqb-true _ _ parts.1))
    (subst (λ (r : StripeNo). has_fragment (code_of st r) h.fragment.value ≡ true) (equal_stripes h.stripe s (eqb-true _ _ parts.0))
    (All-contains (λ (g : Held). has_fragment (code_of st g.stripe) g.fragment.value ≡ true) (seats_of st) h good.within
    (Contains-append_left st.homes (map held_by st.leases) h there.0)))

-- ---- the homes after a change

module _ (st : State) (s : StripeNo) where
  -- after a stripe is removed
  pub homes-without : (r : StripeNo) (f : ℕ) → homes_of (without_stripe st s).homes r f ≡ (if same_stripe s r then None else homes_of st.homes r f)
  homes-without r f = elim (cases_Bool (eqb s.value r.value)) [
    | inl same ↦ rw same (ap seat_in (find-gone (is_of r f) (λ h. is_other s h.stripe) (λ h hit. at h hit ∙ rw same refl) st.homes))
    | inr other ↦ rw other (ap seat_in (find-kept (is_of r f) (λ h. is_other s h.stripe) (λ h hit. at h hit ∙ rw other refl) st.homes))
  ] where
    at : (h : Held) → is_of r f h ≡ true → is_other s h.stripe ≡ not (eqb s.value r.value)
    at h hit = ap (λ v. not (eqb s.value v)) (eqb-true h.stripe.value r.value (and_parts (eqb h.stripe.value r.value) (eqb h.fragment.value f) hit).0)

  -- after a fragment without a home gets one
  pub homes-with : (f : Fragment) (seat : Seat) → home_of st.homes s f.value ≡ None → (r : StripeNo) (g : ℕ)
      → homes_of (with_home st s f seat).homes r g ≡ (if same_stripe s r && nat_eq f.value g then Some seat else homes_of st.homes r g)
  homes-with f seat none r g =
      ap seat_in (find-append (is_of r g) st.homes (record { stripe = s; fragment = f; seat = seat } ∷ [])) ∙ sym (go (eqb s.value r.value && eqb f.value g) refl)
    where
      or_held : (o : Option Held) → seat_in o ≡ seat_in (option_or o None)
      or_held None = refl
      or_held (Some h) = refl

      go : (b : Bool) → (eqb s.value r.value && eqb f.value g) ≡ b
          → (if b then Some seat else homes_of st.homes r g) ≡ seat_in (option_or (home_of st.homes r g) (find (is_of r g) (record { stripe = s; fragment = f; seat = seat } ∷ [])))
      go true hit =
          let parts = and_parts (eqb s.value r.value) (eqb f.value g) hit in
          let old : home_of st.homes r g ≡ None =
          ap (λ v. find (λ (h : Held). eqb h.stripe.value v && eqb h.fragment.value g) st.homes) (sym (eqb-true s.value r.value parts.0))
          ∙ (ap (λ v. find (λ (h : Held). eqb h.stripe.value s.value && eqb h.fragment.value v) st.homes) (sym (eqb-true f.value g parts.1)) ∙ none) in
          rw (old, hit) refl
      go false miss = rw miss (or_held (home_of st.homes r g))

  -- after a fragment loses its home
  pub homes-cleared : (f : Fragment) (r : StripeNo) (g : ℕ)
      → homes_of (without_home st s f).homes r g ≡ (if same_stripe s r && nat_eq f.value g then None else homes_of st.homes r g)
  homes-cleared f r g = elim (cases_Bool (eqb s.value r.value && eqb f.value g)) [
    | inl same ↦ rw same (ap seat_in (find-gone (is_of r g) (λ h. not (is_of s f.value h)) (λ h hit. at h hit ∙ rw same refl) st.homes))
    | inr other ↦ rw other (ap seat_in (find-kept (is_of r g) (λ h. not (is_of s f.value h)) (λ h hit. at h hit ∙ rw other refl) st.homes))
  ] where
    at : (h : Held) → is_of r g h ≡ true → not (is_of s f.value h) ≡ not (eqb s.value r.value && eqb f.value g)
    at h hit =
        let parts = and_parts (eqb h.stripe.value r.value) (eqb h.fragment.value g) hit in
        ap (λ v. not (eqb v s.value && eqb h.fragment.value f.value)) (eqb-true h.stripe.value r.value parts.0)
        ∙ ap (λ v. not (eqb r.value s.value && eqb v f.value)) (eqb-true h.fragment.value g parts.1)
        ∙ ap (λ b. not (b && eqb g f.value)) (test-sym r.value s.value) ∙ ap (λ b. not (eqb s.value r.value && b)) (test-sym g f.value)

-- ---- leases

module _ (nodes : List NodeInfo) (st : State) (s : StripeNo) (f : Fragment) (l : Lease) (live : lease_of st s f ≡ Some l) (good : AreSeated nodes st) where
  pub there-lease : Contains st.leases l × (leased.is_of s f.value l ≡ true)
  there-lease = find-some (leased.is_of s f.value) st.leases l live

  -- it is the only lease of its fragment
  pub only-lease : (k : Lease) → Contains st.leases k → leased.is_of s f.value k ≡ true → k ≡ l
  only-lease k here hit =
      let parts = is_of-parts s f.value k hit in
      let found = contains-leases_in st.leases k good.one_lease here in
      let at : lease_of st s f ≡ Some k =
      subst (λ (g : Fragment). lease_of st s g ≡ Some k) (equal_fragments k.fragment f parts.1) (subst (λ (r : StripeNo). lease_of st r k.fragment ≡ Some k) (equal_stripes k.stripe s parts.0) found) in
      let same : Some k ≡ Some l = sym at ∙ live in cc

  -- its fragment is one of the stripe's code
  pub lease-own : has_fragment (code_of st s) f.value ≡ true
  lease-own =
      let parts = is_of-parts s f.value l there-lease.1 in
      subst (λ (g : Fragment). has_fragment (code_of st s) g.value ≡ true) (equal_fragments l.fragment f parts.1)
      (subst (λ (r : StripeNo). has_fragment (code_of st r) l.fragment.value ≡ true) (equal_stripes l.stripe s parts.0)
      (All-contains (λ (h : Held). has_fragment (code_of st h.stripe) h.fragment.value ≡ true) (seats_of st) (held_by l) good.within
      (Contains-append_right st.homes (map held_by st.leases) (held_by l) (map-member held_by st.leases l there-lease.0))))
