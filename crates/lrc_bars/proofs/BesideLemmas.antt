-- The seats of a stripe's fragments, gathered fragment by fragment: the home of each, and its lease's target.
use Rattle.std.proofs.Common.{[], ◌≡◌, Bool, true, false, not, eqb, List, ◌∷◌, ◌++◌, map, Option, Some, None, option_map, refl, sym, ap, ◌∙◌, subst, inl, inr}
use Rattle.std.specs.List.{Contains}
use Rattle.std.proofs.lemmas.Bool.{eqb-true, and_parts}
use Rattle.std.proofs.lemmas.List.Elements.{Contains-append_left, Contains-append_right, Contains-append_cases}
use Rattle.lrc_code.specs.declared.codes.Code.{Code}
use Rattle.lrc_code.specs.declared.numbers.StripeNo.{StripeNo}
use Rattle.lrc_code.specs.declared.numbers.Fragment.{Fragment}
use Rattle.lrc_code.specs.Codes.{fragments, all_fragments}
use Rattle.lrc_code.proofs.NumbersLemmas.{equal_stripes, equal_fragments}
use Rattle.lrc_topology.specs.declared.NodeInfo.{NodeInfo}
use Rattle.lrc_topology.specs.declared.seat.Seat.{Seat}
use Rattle.lrc_topology.specs.declared.seat.Held.{Held}
use Rattle.lrc_terms.specs.Levels.{home_of, homes_of}
use Rattle.lrc_terms.specs.declared.lease.Lease.{Lease}
use Rattle.lrc_terms.proofs.LeaseLemmas.{leases_in-own, leases_in-contains, contains-leases_in}
use Rattle.lrc_rules.specs.States.{State, held_by, lease_of}
use Rattle.lrc_rules.specs.Goodness.{AreSeated}
use Rattle.lrc_rules.specs.Placement.{is_beside}
use Rattle.lrc_bars.specs.Ties.{bars_in, with_seat}
use Rattle.lrc_rules.proofs.MemberLemmas.{Contains-here, Contains-cases, not-Contains-nil, map-member}
use Rattle.lrc_rules.proofs.TakenLemmas.{member-map}
use Rattle.lrc_bars.proofs.FragmentListLemmas.{all-fragments}
use Rattle.lrc_bars.proofs.BarLemmas.{bars_in-push, bars_in-same}
use Rattle.lrc_rules.proofs.LookUpLemmas.{home-only, found-home}

not_true : (b : Bool) → not b ≡ true → b ≡ false
not_true false is = refl
not_true true is = absurd cc

-- a fragment's seat, if it has one
abbrev pub held_if : StripeNo → Fragment → Option Seat → List Held
held_if s f None = []
held_if s f (Some seat) = record { stripe = s; fragment = f; seat = seat } ∷ []

-- the seats of several fragments
abbrev pub held_all : StripeNo → (Fragment → Option Seat) → List Fragment → List Held
held_all s seats [] = []
held_all s seats (f ∷ fs) = held_if s f (seats f) ++ held_all s seats fs

-- the home of a fragment, and the target of its lease
abbrev pub home_at : State → StripeNo → Fragment → Option Seat
home_at st s f = homes_of st.homes s f.value

abbrev pub target_at : State → StripeNo → Fragment → Option Seat
target_at st s f = option_map (λ (l : Lease). l.target) (lease_of st s f)

module _ (s : StripeNo) (seats : Fragment → Option Seat) where
  -- where no fragment has a seat, there are none
  pub held_all-none : ((f : Fragment) → seats f ≡ None) → (fs : List Fragment) → held_all s seats fs ≡ []
  held_all-none none [] = refl
  held_all-none none (f ∷ fs) = ap (λ (o : Option Seat). held_if s f o ++ held_all s seats fs) (none f) ∙ held_all-none none fs

  -- each is the seat of one of the fragments
  held-one : (among : List Held) → ((f : Fragment) (h : Held) → Contains (held_if s f (seats f)) h → Contains among h)
      → (fs : List Fragment) (h : Held) → Contains (held_all s seats fs) h → Contains among h
  held-one among own [] h here = absurd (not-Contains-nil h here)
  held-one among own (f ∷ fs) h here = elim (Contains-append_cases (held_if s f (seats f)) (held_all s seats fs) h here) [
    | inl first ↦ own f h first
    | inr later ↦ held-one among own fs h later
  ]

  -- and that of each is there
  own-held : (fs : List Fragment) (f : Fragment) → Contains fs f → (h : Held) → Contains (held_if s f (seats f)) h → Contains (held_all s seats fs) h
  own-held [] f there h here = absurd (not-Contains-nil f there)
  own-held (g ∷ gs) f there h here = elim (Contains-cases g f gs there) [
    | inl same ↦ Contains-append_left (held_if s g (seats g)) (held_all s seats gs) h
        (subst (λ (q : Fragment). Contains (held_if s q (seats q)) h) (sym same) here)
    | inr more ↦ Contains-append_right (held_if s g (seats g)) (held_all s seats gs) h (own-held gs f more h here)
  ]

  -- and each is that of some fragment
  held-from : (fs : List Fragment) (h : Held) → Contains (held_all s seats fs) h → (f : Fragment) × Contains (held_if s f (seats f)) h
  held-from [] h here = absurd (not-Contains-nil h here)
  held-from (f ∷ fs) h here = elim (Contains-append_cases (held_if s f (seats f)) (held_all s seats fs) h here) [
    | inl first ↦ (f, first)
    | inr later ↦ held-from fs h later
  ]

module _ (nodes : List NodeInfo) (code : Code) (s : StripeNo) (f : Fragment) (before : List Held) (xs ys : Fragment → Option Seat) where
  own-first : (h : Held) → Contains before h → Contains (before ++ held_all s ys all_fragments) h
  own-first h here = Contains-append_left before (held_all s ys all_fragments) h here

  own-later : (g : Fragment) (h : Held) → Contains (held_if s g (ys g)) h → Contains (before ++ held_all s ys all_fragments) h
  own-later g h here = Contains-append_right before (held_all s ys all_fragments) h (own-held s ys all_fragments g (all-fragments g) h here)

  -- seats that are the same for all other fragments are there too
  other-seats : ((g : Fragment) → eqb g.value f.value ≡ false → xs g ≡ ys g) → (h : Held) → is_beside s f h ≡ true
      → Contains (before ++ held_all s xs all_fragments) h → Contains (before ++ held_all s ys all_fragments) h
  other-seats same h beside here = elim (Contains-append_cases before (held_all s xs all_fragments) h here) [
    | inl first ↦ own-first h first
    | inr later ↦
        let (g, one) = held-from s xs all_fragments h later in
        own-later g h (subst (λ (o : Option Seat). Contains (held_if s g o) h) (same g (apart g (xs g) one)) one)
  ]
    where
      apart : (g : Fragment) (o : Option Seat) → Contains (held_if s g o) h → eqb g.value f.value ≡ false
      apart g None one = absurd (not-Contains-nil h one)
      apart g (Some seat) one = elim (Contains-cases (record { stripe = s; fragment = g; seat = seat }) h [] one) [
        | inr none ↦ absurd (not-Contains-nil h none)
        | inl same ↦ not_true (eqb g.value f.value) (and_parts (eqb s.value s.value) (not (eqb g.value f.value)) (ap (is_beside s f) same ∙ beside)).1
      ]

module _ (nodes : List NodeInfo) (code : Code) (s : StripeNo) (f : Fragment) (before : List Held) (xs ys : Fragment → Option Seat) where
  -- a seat of the fragment itself bars nothing
  pub held_all-besides : ((g : Fragment) → eqb g.value f.value ≡ false → xs g ≡ ys g)
      → bars_in nodes code s f (before ++ held_all s xs all_fragments) ≡ bars_in nodes code s f (before ++ held_all s ys all_fragments)
  held_all-besides same =
      bars_in-same nodes code s f (before ++ held_all s xs all_fragments) (before ++ held_all s ys all_fragments) (λ h beside. (
        other-seats nodes code s f before xs ys same h beside,
        other-seats nodes code s f before ys xs (λ g other. sym (same g other)) h beside,
      ))

  module _ (g : Fragment) (seat : Seat) (none : xs g ≡ None) (one : ys g ≡ Some seat) (same : (h : Fragment) → eqb h.value g.value ≡ false → ys h ≡ xs h) where
    abbrev new : Held
    new = record { stripe = s; fragment = g; seat = seat }

    -- a seat that was there is there still
    kept : (h : Held) → Contains (before ++ held_all s xs all_fragments) h → Contains (before ++ held_all s ys all_fragments) h
    kept h here = elim (Contains-append_cases before (held_all s xs all_fragments) h here) [
      | inl first ↦ own-first nodes code s f before xs ys h first
      | inr later ↦ let (q, it) = held-from s xs all_fragments h later in own-later nodes code s f before xs ys q h (moved q it (eqb q.value g.value) refl)
    ]
      where
        moved : (q : Fragment) → Contains (held_if s q (xs q)) h → (b : Bool) → eqb q.value g.value ≡ b → Contains (held_if s q (ys q)) h
        moved q it false other = subst (λ (o : Option Seat). Contains (held_if s q o) h) (sym (same q other)) it
        moved q it true own = absurd (not-Contains-nil h (subst (λ (o : Option Seat). Contains (held_if s q o) h)
            (ap xs (equal_fragments q g (eqb-true q.value g.value own)) ∙ none) it))

    -- and none is new but the one
    only : (h : Held) → Contains (before ++ held_all s ys all_fragments) h → Contains ((before ++ held_all s xs all_fragments) ++ new ∷ []) h
    only h here = elim (Contains-append_cases before (held_all s ys all_fragments) h here) [
      | inl first ↦ Contains-append_left (before ++ held_all s xs all_fragments) (new ∷ []) h (own-first nodes code s f before ys xs h first)
      | inr later ↦ let (q, it) = held-from s ys all_fragments h later in moved q it (eqb q.value g.value) refl
    ]
      where
        moved : (q : Fragment) → Contains (held_if s q (ys q)) h → (b : Bool) → eqb q.value g.value ≡ b → Contains ((before ++ held_all s xs all_fragments) ++ new ∷ []) h
        moved q it false other = Contains-append_left (before ++ held_all s xs all_fragments) (new ∷ []) h
            (own-later nodes code s f before ys xs q h (subst (λ (o : Option Seat). Contains (held_if s q o) h) (same q other) it))
        moved q it true own =
            let here = equal_fragments q g (eqb-true q.value g.value own) in
            Contains-append_right (before ++ held_all s xs all_fragments) (new ∷ []) h
            (subst (λ (o : Option Seat). Contains (held_if s g o) h) one (subst (λ (p : Fragment). Contains (held_if s p (ys p)) h) here it))

    -- one seat more
    pub held_all-one : with_seat nodes code s f (bars_in nodes code s f (before ++ held_all s xs all_fragments)) g (Some seat)
        ≡ bars_in nodes code s f (before ++ held_all s ys all_fragments)
    held_all-one =
        bars_in-push nodes code s f (before ++ held_all s xs all_fragments) new
        ∙ bars_in-same nodes code s f ((before ++ held_all s xs all_fragments) ++ new ∷ []) (before ++ held_all s ys all_fragments) (λ h beside. (
          λ here. elim (Contains-append_cases (before ++ held_all s xs all_fragments) (new ∷ []) h here) [
            | inl old ↦ kept h old
            | inr last ↦ own-later nodes code s f before xs ys g h (subst (λ (o : Option Seat). Contains (held_if s g o) h) (sym one) last)
          ],
          only h,
        ))

-- lists with the same seats of the stripe bar the same beside others
bars-beside : (nodes : List NodeInfo) (code : Code) (s : StripeNo) (f : Fragment) (before xs ys : List Held)
    → ((h : Held) → Contains xs h → Contains ys h) → ((h : Held) → h.stripe ≡ s → Contains ys h → Contains xs h)
    → bars_in nodes code s f (before ++ xs) ≡ bars_in nodes code s f (before ++ ys)
bars-beside nodes code s f before xs ys down up = bars_in-same nodes code s f (before ++ xs) (before ++ ys) (λ h beside. (
  λ here. elim (Contains-append_cases before xs h here) [
    | inl first ↦ Contains-append_left before ys h first
    | inr later ↦ Contains-append_right before ys h (down h later)
  ],
  λ here. elim (Contains-append_cases before ys h here) [
    | inl first ↦ Contains-append_left before xs h first
    | inr later ↦ Contains-append_right before xs h
        (up h (equal_stripes h.stripe s (eqb-true h.stripe.value s.value (and_parts (eqb h.stripe.value s.value) _ beside).0)) later)
  ],
))

-- ---- they are the seats of the stripe

module _ (nodes : List NodeInfo) (st : State) (s : StripeNo) (seated : AreSeated nodes st) where
  home-if : (f : Fragment) (o : Option Held) → home_of st.homes s f.value ≡ o
      → (h : Held) → Contains (held_if s f (option_map (λ (g : Held). g.seat) o)) h → Contains st.homes h
  home-if f None e h here = absurd (not-Contains-nil h here)
  home-if f (Some g) e h here = elim (Contains-cases (record { stripe = s; fragment = f; seat = g.seat }) h [] here) [
    | inr none ↦ absurd (not-Contains-nil h none)
    | inl same ↦
        let m = found-home st s f.value g e in
        let parts = and_parts (eqb g.stripe.value s.value) (eqb g.fragment.value f.value) m.1 in
        let is : g ≡ h =
        ap (λ (r : StripeNo). record { stripe = r; fragment = g.fragment; seat = g.seat }) (equal_stripes g.stripe s (eqb-true g.stripe.value s.value parts.0))
        ∙ ap (λ (q : Fragment). record { stripe = s; fragment = q; seat = g.seat }) (equal_fragments g.fragment f (eqb-true g.fragment.value f.value parts.1)) ∙ same in
        subst (Contains st.homes) is m.0
  ]

  target-if : (f : Fragment) (o : Option Lease) → lease_of st s f ≡ o
      → (h : Held) → Contains (held_if s f (option_map (λ (l : Lease). l.target) o)) h → Contains (map held_by st.leases) h
  target-if f None e h here = absurd (not-Contains-nil h here)
  target-if f (Some l) e h here = elim (Contains-cases (record { stripe = s; fragment = f; seat = l.target }) h [] here) [
    | inr none ↦ absurd (not-Contains-nil h none)
    | inl same ↦
        let own = leases_in-own st.leases s f.value l e in
        let is : held_by l ≡ h =
        ap (λ (r : StripeNo). record { stripe = r; fragment = l.fragment; seat = l.target }) own.0
        ∙ ap (λ (q : Fragment). record { stripe = s; fragment = q; seat = l.target }) (equal_fragments l.fragment f own.1) ∙ same in
        subst (Contains (map held_by st.leases)) is (map-member held_by st.leases l (leases_in-contains st.leases s f.value l e))
  ]

  home-held : (h : Held) → h.stripe ≡ s → Contains st.homes h → Contains (held_if s h.fragment (home_at st s h.fragment)) h
  home-held h stripe home =
      let found : home_of st.homes s h.fragment.value ≡ Some h = subst (λ (r : StripeNo). home_of st.homes r h.fragment.value ≡ Some h) stripe (home-only st.homes seated.one_home h home) in
      subst (λ (o : Option Held). Contains (held_if s h.fragment (option_map (λ (g : Held). g.seat) o)) h) (sym found)
      (subst (λ (r : StripeNo). Contains (held_if r h.fragment (Some h.seat)) h) stripe (Contains-here h []))

  target-held : (h : Held) → h.stripe ≡ s → Contains (map held_by st.leases) h → Contains (held_if s h.fragment (target_at st s h.fragment)) h
  target-held h stripe target =
      let m = member-map held_by st.leases h target in
      let stripe_too : m.0.stripe ≡ s = ap (λ (x : Held). x.stripe) m.2 ∙ stripe in
      let found : lease_of st s h.fragment ≡ Some m.0 =
      subst (λ (q : Fragment). lease_of st s q ≡ Some m.0) (ap (λ (x : Held). x.fragment) m.2)
      (subst (λ (r : StripeNo). lease_of st r m.0.fragment ≡ Some m.0) stripe_too (contains-leases_in st.leases m.0 seated.one_lease m.1)) in
      subst (λ (o : Option Lease). Contains (held_if s h.fragment (option_map (λ (l : Lease). l.target) o)) h) (sym found)
      (subst (λ (a : Seat). Contains (held_if s h.fragment (Some a)) h) (sym (ap (λ (x : Held). x.seat) m.2))
      (subst (λ (r : StripeNo). Contains (held_if r h.fragment (Some h.seat)) h) stripe (Contains-here h [])))

  -- so they bar the same for each fragment, beside what is barred before
  pub homes-all : (code : Code) (f : Fragment) (before : List Held)
      → bars_in nodes code s f (before ++ held_all s (home_at st s) all_fragments) ≡ bars_in nodes code s f (before ++ st.homes)
  homes-all code f before = bars-beside nodes code s f before (held_all s (home_at st s) all_fragments) st.homes
      (held-one s (home_at st s) st.homes (λ g. home-if g (home_of st.homes s g.value) refl) all_fragments)
      (λ h stripe home. own-held s (home_at st s) all_fragments h.fragment (all-fragments h.fragment) h (home-held h stripe home))

  pub targets-all : (code : Code) (f : Fragment) (before : List Held)
      → bars_in nodes code s f (before ++ held_all s (target_at st s) all_fragments) ≡ bars_in nodes code s f (before ++ map held_by st.leases)
  targets-all code f before = bars-beside nodes code s f before (held_all s (target_at st s) all_fragments) (map held_by st.leases)
      (held-one s (target_at st s) (map held_by st.leases) (λ g. target-if g (lease_of st s g) refl) all_fragments)
      (λ h stripe target. own-held s (target_at st s) all_fragments h.fragment (all-fragments h.fragment) h (target-held h stripe target))
