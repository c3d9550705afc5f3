-- Stripes, homes, leases, loads, and homeless and missing fragments in terms of the state's lists; and the empty
-- store.
use Rattle.std.proofs.Common.{◌≡◌, ◌≢◌, ◌⊎◌, inl, inr, ℕ, ◌<◌, ◌≤◌, Bool, true, false, not, eqb, List, Option, Some, None, option_map, is_none, refl, sym, ap, ap₂, ◌∙◌, subst}
use Rattle.std.specs.List.{AllPairs, Contains}
use Rattle.std.specs.Option.{option_map_or}
use Rattle.std.proofs.lemmas.Bool.{and_parts, and_from, and_left, false_from_ne_true, eqb-true, eq-eqb, lt-ltb, ltb-true, le-ltb}
use Rattle.std.proofs.lemmas.Option.{same_Some}
use Rattle.lrc_code.specs.declared.numbers.StripeNo.{StripeNo}
use Rattle.lrc_code.specs.declared.numbers.Fragment.{Fragment}
use Rattle.lrc_code.specs.Numbers.{same_stripe}
use Rattle.lrc_code.specs.Codes.{fragment_count, has_fragment}
use Rattle.lrc_code.proofs.NumbersLemmas.{equal_stripes, equal_fragments}
use Rattle.lrc_topology.specs.declared.NodeInfo.{NodeInfo}
use Rattle.lrc_topology.specs.declared.seat.Seat.{Seat}
use Rattle.lrc_topology.specs.declared.seat.Held.{Held}
use Rattle.lrc_terms.specs.Levels.{home_of, homes_of}
use Rattle.lrc_terms.proofs.LevelLemmas.{homeless-missing}
use Rattle.lrc_terms.specs.declared.lease.Lease.{Lease}
use Rattle.lrc_terms.specs.Leased.{leases_in, is_of as lease_is, AreOneEach}
use Rattle.lrc_terms.proofs.LeaseLemmas.{find-none, is_of-from, leases_in-own, leases_in-contains, contains-leases_in}
use Rattle.lrc_rules.specs.States.{State, has_stripe, lease_of, online_at, code_of, homeless, missing}
use Rattle.lrc_rules.specs.Goodness.{AreSeated}
use Rattle.lrc_rules.proofs.MemberLemmas.{find-member, list_any-member}
use Rattle.lrc_rules.proofs.LookUpLemmas.{home-only, home-own, lease-own, stripe-there, is_of}

-- ---- stripes

module _ (st : State) (s : StripeNo) where
  -- a stripe of the list is found by the test
  pub there-stripe : Contains st.stripes s → has_stripe st s ≡ true
  there-stripe among = list_any-member (same_stripe s) st.stripes s among (eq-eqb s.value s.value refl)

  pub absent-stripe : has_stripe st s ≡ false → ¬ (Contains st.stripes s)
  absent-stripe miss among = let both : true ≡ false = sym (there-stripe among) ∙ miss in cc

  pub stripe-absent : ¬ (Contains st.stripes s) → has_stripe st s ≡ false
  stripe-absent none = false_from_ne_true (has_stripe st s) (λ hit. none (stripe-there st s hit))

-- ---- homes

-- the held seat of a fragment
abbrev pub held_on : StripeNo → Fragment → Seat → Held
held_on s f seat = record { stripe = s; fragment = f; seat = seat }

-- the list has no home of the fragment
abbrev pub IsHomeless : List Held → StripeNo → Fragment → Type 0
IsHomeless homes s f = (seat : Seat) → ¬ (Contains homes (held_on s f seat))

seat-of : (o : Option Held) (seat : Seat) → option_map (λ h. h.seat) o ≡ Some seat → (h : Held) × (o ≡ Some h) × (h.seat ≡ seat)
seat-of None seat is = absurd (cc)
seat-of (Some h) seat is = (h, refl, same_Some h.seat seat is)

none-of : (o : Option Held) → option_map (λ h. h.seat) o ≡ None → o ≡ None
none-of None is = refl
none-of (Some h) is = absurd (cc)

held-is : (s : StripeNo) (f : Fragment) (h : Held) → is_of s f.value h ≡ true → h ≡ held_on s f h.seat
held-is s f h hit =
    let parts = and_parts (eqb h.stripe.value s.value) (eqb h.fragment.value f.value) hit in
    ap₂ (λ (r : StripeNo) (g : Fragment). held_on r g h.seat) (equal_stripes h.stripe s (eqb-true _ _ parts.0))
    (equal_fragments h.fragment f (eqb-true _ _ parts.1))

module _ (homes : List Held) where
  -- the home that is found is in the list
  pub found-home : (s : StripeNo) (f : Fragment) (seat : Seat) → homes_of homes s f.value ≡ Some seat → Contains homes (held_on s f seat)
  found-home s f seat is =
      let (h, found, same) = seat-of (home_of homes s f.value) seat is in
      let among = find-member (is_of s f.value) homes h found in
      subst (Contains homes) (held-is s f h among.1 ∙ ap (held_on s f) same) among.0

  -- if no home is found, there is none
  pub none-home : (s : StripeNo) (f : Fragment) → homes_of homes s f.value ≡ None → IsHomeless homes s f
  none-home s f is seat among =
      let miss : is_of s f.value (held_on s f seat) ≡ false = find-none (is_of s f.value) homes (held_on s f seat) (none-of (home_of homes s f.value) is) among in
      let hit : is_of s f.value (held_on s f seat) ≡ true = and_from _ _ (eq-eqb s.value s.value refl) (eq-eqb f.value f.value refl) in
      let both : true ≡ false = sym hit ∙ miss in cc

  -- and if there is none, none is found
  pub home-none : (s : StripeNo) (f : Fragment) → IsHomeless homes s f → homes_of homes s f.value ≡ None
  home-none s f none = by (homes_of homes s f.value) refl
    where
      by : (o : Option Seat) → homes_of homes s f.value ≡ o → homes_of homes s f.value ≡ None
      by None is = is
      by (Some seat) is = absurd (none seat (found-home s f seat is))

  -- the only home of a fragment is found
  pub home-found : AllPairs (λ h g. h.stripe ≡ g.stripe → h.fragment ≢ g.fragment) homes → (h : Held) → Contains homes h
      → homes_of homes h.stripe h.fragment.value ≡ Some h.seat
  home-found single h among = ap (λ (o : Option Held). option_map (λ g. g.seat) o) (home-only homes single h among)

-- ---- leases

module _ (st : State) (s : StripeNo) (f : Fragment) where
  -- the lease is a live lease of the fragment
  abbrev pub IsLeaseOf : Lease → Type 0
  IsLeaseOf l = Contains st.leases l × (l.stripe ≡ s) × (l.fragment ≡ f)

  -- no live lease is of the fragment
  abbrev pub IsUnleased : Type 0
  IsUnleased = (l : Lease) → Contains st.leases l → l.stripe ≡ s → l.fragment ≢ f

  -- the lease that is found is in the list
  pub found-lease : (l : Lease) → lease_of st s f ≡ Some l → IsLeaseOf l
  found-lease l is =
      let own = leases_in-own st.leases s f.value l is in
      (leases_in-contains st.leases s f.value l is, own.0, equal_fragments l.fragment f own.1)

  -- if no lease is found, there is none
  pub none-lease : lease_of st s f ≡ None → IsUnleased
  none-lease is l among stripe fragment =
      let miss : lease_is s f.value l ≡ false = find-none (lease_is s f.value) st.leases l is among in
      let hit = is_of-from s f.value l (ap (λ (r : StripeNo). r.value) stripe) (ap (λ (g : Fragment). g.value) fragment) in
      let both : true ≡ false = sym hit ∙ miss in cc

  -- and if there is none, none is found
  pub lease-none : IsUnleased → lease_of st s f ≡ None
  lease-none none = by (lease_of st s f) refl
    where
      by : (o : Option Lease) → lease_of st s f ≡ o → lease_of st s f ≡ None
      by None is = is
      by (Some l) is = absurd (let own = found-lease l is in none l own.0 own.1 own.2)

  -- the only lease of a fragment is found
  pub lease-found : AreOneEach st.leases → (l : Lease) → IsLeaseOf l → lease_of st s f ≡ Some l
  lease-found single l (among, stripe, fragment) =
      ap₂ (λ (r : StripeNo) (g : Fragment). leases_in st.leases r g.value) (sym stripe) (sym fragment)
      ∙ contains-leases_in st.leases l single among

-- ---- homeless and missing fragments

is-none : (o : Option Seat) → is_none o ≡ true → o ≡ None
is-none None is = refl
is-none (Some seat) is = absurd (cc)

module _ (st : State) (s : StripeNo) (f : Fragment) where
  -- the fragment is one of the stripe's code, and the state has no home of it
  abbrev IsBare : Type 0
  IsBare = (f.value < fragment_count (code_of st s)) × IsHomeless st.homes s f

  pub homeless-words : homeless st s f.value ≡ true → IsBare
  homeless-words bare =
      let parts = and_parts (has_fragment (code_of st s) f.value) (is_none (homes_of st.homes s f.value)) bare in
      (ltb-true f.value (fragment_count (code_of st s)) parts.0, none-home st.homes s f (is-none (homes_of st.homes s f.value) parts.1))

  pub words-homeless : IsBare → homeless st s f.value ≡ true
  words-homeless so =
      and_from _ _ (lt-ltb f.value (fragment_count (code_of st s)) so.0) (ap (λ (o : Option Seat). is_none o) (home-none st.homes s f so.1))

module _ (nodes : List NodeInfo) (st : State) (s : StripeNo) (f : Fragment) where
  -- the fragment is one of the stripe's code, and its home is on a node that is not online
  abbrev IsAway : Type 0
  IsAway =
      (f.value < fragment_count (code_of st s))
      × ((seat : Seat) × (homes_of st.homes s f.value ≡ Some seat) × (online_at nodes st seat.node ≡ false))

  pub missing-words : missing nodes st s f.value ≡ true → (homeless st s f.value ≡ true) ⊎ IsAway
  missing-words lost = by (homes_of st.homes s f.value) refl parts.1
    where
      parts : (has_fragment (code_of st s) f.value ≡ true)
          × (option_map_or (λ seat. not (online_at nodes st seat.node)) (homes_of st.homes s f.value) true ≡ true)
      parts = and_parts (has_fragment (code_of st s) f.value) _ lost

      offline : (b : Bool) → not b ≡ true → b ≡ false
      offline true is = sym is
      offline false is = refl

      by : (o : Option Seat) → homes_of st.homes s f.value ≡ o → option_map_or (λ seat. not (online_at nodes st seat.node)) o true ≡ true
          → (homeless st s f.value ≡ true) ⊎ IsAway
      by None is away = inl (and_from _ _ parts.0 (ap (λ (o : Option Seat). is_none o) is))
      by (Some seat) is away =
          inr (ltb-true f.value (fragment_count (code_of st s)) parts.0, (seat, is, offline (online_at nodes st seat.node) away))

  pub words-missing : (homeless st s f.value ≡ true) ⊎ IsAway → missing nodes st s f.value ≡ true
  words-missing (inl bare) = homeless-missing (code_of st s) (online_at nodes st) (homes_of st.homes s) f.value bare
  words-missing (inr (within, (seat, is, away))) =
      and_from _ _ (lt-ltb f.value (fragment_count (code_of st s)) within)
      (ap (λ (o : Option Seat). option_map_or (λ home. not (online_at nodes st home.node)) o true) is ∙ ap not away)

-- a number that is not a fragment of the code is neither homeless nor missing
pub none-beyond : (nodes : List NodeInfo) (st : State) (s : StripeNo) (f : ℕ) → fragment_count (code_of st s) ≤ f
    → (homeless st s f ≡ false) × (missing nodes st s f ≡ false)
none-beyond nodes st s f past =
    let none : has_fragment (code_of st s) f ≡ false = le-ltb f (fragment_count (code_of st s)) past in
    (and_left (has_fragment (code_of st s) f) _ none, and_left (has_fragment (code_of st s) f) _ none)

-- and if the seats are in order, it has neither a home nor a lease
module _ (nodes : List NodeInfo) (st : State) (s : StripeNo) (f : Fragment) (seated : AreSeated nodes st) (past : fragment_count (code_of st s) ≤ f.value) where
  lacks : has_fragment (code_of st s) f.value ≡ false
  lacks = le-ltb f.value (fragment_count (code_of st s)) past

  home-by : (o : Option Held) → home_of st.homes s f.value ≡ o → o ≡ None
  home-by None is = refl
  home-by (Some h) is = absurd (let both : true ≡ false = sym (home-own nodes st s f h seated is) ∙ lacks in cc)

  lease-by : (o : Option Lease) → lease_of st s f ≡ o → o ≡ None
  lease-by None is = refl
  lease-by (Some l) is = absurd (let both : true ≡ false = sym (lease-own nodes st s f l is seated) ∙ lacks in cc)

  pub held-beyond : (homes_of st.homes s f.value ≡ None) × (lease_of st s f ≡ None)
  held-beyond = (
    ap (λ (o : Option Held). option_map (λ h. h.seat) o) (home-by (home_of st.homes s f.value) refl),
    lease-by (lease_of st s f) refl,
  )
