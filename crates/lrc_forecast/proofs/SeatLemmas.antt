-- Which nodes are gone or down after an outage, and which stripes have a seat on its nodes.
use Rattle.std.proofs.Common.{◌≡◌, ◌≢◌, ◌↔◌, ℕ, ◌<◌, ◌&&◌, ◌||◌, Bool, true, false, not, List, [], ◌∷◌, map, get_or, Option, Some, None, unwrap_or, option_map, refl, sym, ap, ap₂, ◌∙◌, subst, inl, inr}
use Rattle.std.specs.Prelude.{IsSomeAnd}
use Rattle.std.specs.List.{Contains, list_any}
use Rattle.std.proofs.lemmas.Bool.{lt-ltb, false_from_ne_true}
use Rattle.std.proofs.lemmas.Option.{same_Some}
use Rattle.std.proofs.lemmas.List.Elements.{All-contains, Contains-append_left, Contains-append_right, Contains-append_cases}
use Rattle.lrc_code.specs.declared.codes.Code.TheVariants.{Wide}
use Rattle.lrc_code.specs.declared.numbers.StripeNo.{StripeNo}
use Rattle.lrc_code.specs.declared.numbers.NodeNo.{NodeNo}
use Rattle.lrc_code.specs.declared.numbers.Fragment.{Fragment}
use Rattle.lrc_code.specs.Numbers.{same_node}
use Rattle.lrc_code.specs.Codes.{fragments, all_fragments}
use Rattle.lrc_topology.specs.declared.NodeInfo.{NodeInfo}
use Rattle.lrc_topology.specs.declared.seat.Seat.{Seat}
use Rattle.lrc_topology.specs.declared.seat.Held.{Held}
use Rattle.lrc_topology.specs.Nodes.{node_at}
use Rattle.lrc_terms.specs.declared.lease.Lease.{Lease}
use Rattle.lrc_terms.specs.declared.mode.Mode.{Mode}
use Rattle.lrc_terms.specs.declared.mode.Mode.TheVariants.{Active, Draining, Gone}
use Rattle.lrc_terms.specs.Modes.{is_gone}
use Rattle.lrc_terms.specs.Levels.{homes_of}
use Rattle.lrc_terms.proofs.CodeListLemmas.{code-fragments}
use Rattle.lrc_terms.proofs.LeaseLemmas.{contains-leases_in, leases_in-contains, leases_in-own}
use Rattle.lrc_terms.proofs.ListLemmas.{Contains-unmap}
use Rattle.lrc_rules.specs.States.{State, seats_of, held_by, taken_seats, lease_of, has_number, mode_of, is_down}
use Rattle.lrc_rules.specs.Steps.{changed_on}
use Rattle.lrc_rules.specs.Goodness.{AreSeated, IsStanding}
use Rattle.lrc_rules.proofs.LookUpLemmas.{test-sym, home-only, seat_in}
use Rattle.lrc_rules.proofs.MemberLemmas.{list_any-member, member-list_any, map-member}
use Rattle.lrc_rules.proofs.ModeListLemmas.{left}
use Rattle.lrc_rules.proofs.NodeLemmas.{member-node_at}
use Rattle.lrc_rules.proofs.StateLemmas.{held_on}
use Rattle.lrc_rules.proofs.StateLemmas as state
use Rattle.lrc_forecast.specs.declared.outlook.Outage.{Outage}
use Rattle.lrc_forecast.specs.declared.outlook.Outage.TheVariants.{Stop, Lose}
use Rattle.lrc_forecast.specs.Forecasts.{report_of, state_with, is_on_any, lease_target, has_seat_on_any, HasNoSeatOn}
use Rattle.lrc_forecast.specs.Hits.{IsSetOf, is_on_set, has_seat_on_set}
use Rattle.lrc_forecast.proofs.OutageLemmas.{gone-by, added, or_false}

-- ---- which nodes are gone or down after an outage

pub mode-stopped : (st : State) (ns : List NodeNo) (n : NodeNo) → mode_of (state_with Stop st ns) n ≡ mode_of st n
mode-stopped st [] n = refl
mode-stopped st (m ∷ ns) n = mode-stopped (changed_on (report_of Stop) st m) ns n

or-more : (a b c : Bool) → ((a || b) || c) ≡ (a || (b || c))
or-more true b c = refl
or-more false b c = refl

pub down-stopped : (st : State) (ns : List NodeNo) (n : NodeNo) → is_down (state_with Stop st ns) n ≡ (is_down st n || has_number ns n)
down-stopped st [] n = sym (or_false (is_down st n))
down-stopped st (m ∷ ns) n =
    down-stopped (changed_on (report_of Stop) st m) ns n
    ∙ ap (λ (b : Bool). b || has_number ns n) (added st.down m n)
    ∙ or-more (is_down st n) (same_node m n) (has_number ns n)
    ∙ ap (λ (b : Bool). is_down st n || (b || has_number ns n)) (test-sym m.value n.value)

gone-one : (st : State) (m n : NodeNo) → is_gone (mode_of (changed_on (report_of Lose) st m) n) ≡ (is_gone (mode_of st n) || same_node m n)
gone-one st m n =
    let next = changed_on (report_of Lose) st m in
    gone-by (has_number next.gone n) (has_number next.draining n) ∙ added st.gone m n
    ∙ ap (λ (b : Bool). b || same_node m n) (sym (gone-by (has_number st.gone n) (has_number st.draining n)))

pub gone-lost : (st : State) (ns : List NodeNo) (n : NodeNo) → is_gone (mode_of (state_with Lose st ns) n) ≡ (is_gone (mode_of st n) || has_number ns n)
gone-lost st [] n = sym (or_false (is_gone (mode_of st n)))
gone-lost st (m ∷ ns) n =
    gone-lost (changed_on (report_of Lose) st m) ns n
    ∙ ap (λ (b : Bool). b || has_number ns n) (gone-one st m n)
    ∙ or-more (is_gone (mode_of st n)) (same_node m n) (has_number ns n)
    ∙ ap (λ (b : Bool). is_gone (mode_of st n) || (b || has_number ns n)) (test-sym m.value n.value)

and_true : (b : Bool) → (b && true) ≡ b
and_true true = refl
and_true false = refl

left-two : (a b d : Bool) → ((not a && d) && not b) ≡ (d && not (a || b))
left-two true b true = refl
left-two true b false = refl
left-two false b d = refl

pub down-lost : (st : State) (ns : List NodeNo) (n : NodeNo) → is_down (state_with Lose st ns) n ≡ (is_down st n && not (has_number ns n))
down-lost st [] n = sym (and_true (is_down st n))
down-lost st (m ∷ ns) n =
    down-lost (changed_on (report_of Lose) st m) ns n
    ∙ ap (λ (b : Bool). b && not (has_number ns n)) (left st.down m n (same_node m n) refl)
    ∙ left-two (same_node m n) (has_number ns n) (is_down st n)
    ∙ ap (λ (b : Bool). is_down st n && not (b || has_number ns n)) (test-sym m.value n.value)

-- ---- seats stand on nodes of the store that are not gone

there-by : (slot : ℕ) (o : Option NodeInfo) (m : Mode) → IsSomeAnd o (λ n. (slot < n.slots) × (m ≢ Gone)) → is_gone m ≡ false
there-by slot None m at = absurd at
there-by slot (Some n) Active at = refl
there-by slot (Some n) Draining at = refl
there-by slot (Some n) Gone at = absurd (at.1 refl)

module _ (nodes : List NodeInfo) (st : State) (seated : AreSeated nodes st) where
  pub stands : (h : Held) → Contains (seats_of st) h → IsStanding nodes st h.seat
  stands h here = All-contains (IsStanding nodes st) (taken_seats st) h.seat seated.standing (map-member (λ (k : Held). k.seat) (seats_of st) h here)

  pub not-gone : (h : Held) → Contains (seats_of st) h → is_gone (mode_of st h.seat.node) ≡ false
  not-gone h here = there-by h.seat.slot (node_at nodes h.seat.node) (mode_of st h.seat.node) (stands h here)

  -- ---- the seats of a stripe, by its fragments

  pub home-held : (s : StripeNo) (f : Fragment) (seat : Seat) → homes_of st.homes s f.value ≡ Some seat → Contains (seats_of st) (held_on s f seat)
  home-held s f seat is = Contains-append_left st.homes (map held_by st.leases) (held_on s f seat) (state.found-home st.homes s f seat is)

  pub target-held : (s : StripeNo) (f : Fragment) (l : Lease) → lease_of st s f ≡ Some l → Contains (seats_of st) (held_by l)
  target-held s f l is =
      Contains-append_right st.homes (map held_by st.leases) (held_by l) (map-member held_by st.leases l (leases_in-contains st.leases s f.value l is))

  module _ (ns : List NodeNo) (s : StripeNo) where
    abbrev test : Fragment → Bool
    test f = is_on_any ns (homes_of st.homes s f.value) || is_on_any ns (lease_target st s f)

    fragment-listed : (f : Fragment) → Contains all_fragments f
    fragment-listed f = code-fragments Wide f (lt-ltb f.value 16 f.in_range)

    either-on : (a b : Bool) → (a || b) ≡ false → (a ≡ false) × (b ≡ false)
    either-on true b off = absurd (cc)
    either-on false b off = (refl, off)

    none-of : has_seat_on_any st ns s ≡ false → (f : Fragment) → test f ≡ false
    unfolding has_seat_on_any
    none-of none f = false_from_ne_true (test f) (λ hit.
        let both : true ≡ false = sym (list_any-member test all_fragments f (fragment-listed f) hit) ∙ none in cc)

    none-there : has_seat_on_any st ns s ≡ false → HasNoSeatOn st ns s
    none-there none h here own = elim (Contains-append_cases st.homes (map held_by st.leases) h here) [
      | inl home ↦
          let found : homes_of st.homes h.stripe h.fragment.value ≡ Some h.seat = ap seat_in (home-only st.homes seated.one_home h home) in
          let mine : homes_of st.homes s h.fragment.value ≡ Some h.seat = subst (λ (r : StripeNo). homes_of st.homes r h.fragment.value ≡ Some h.seat) own found in
          sym (ap (is_on_any ns) mine) ∙ (either-on _ _ (none-of none h.fragment)).0
      | inr target ↦
          let m = Contains-unmap held_by st.leases h target in
          let l = m.0 in
          let mine : l.stripe ≡ s = ap (λ (k : Held). k.stripe) m.2 ∙ own in
          let live : lease_of st s l.fragment ≡ Some l =
          subst (λ (r : StripeNo). lease_of st r l.fragment ≡ Some l) mine (contains-leases_in st.leases l seated.one_lease m.1) in
          ap (λ (k : Held). has_number ns k.seat.node) (sym m.2)
          ∙ sym (ap (λ (o : Option Lease). is_on_any ns (option_map (λ k. k.target) o)) live) ∙ (either-on _ _ (none-of none l.fragment)).1
    ]

    there-none : HasNoSeatOn st ns s → has_seat_on_any st ns s ≡ false
    unfolding has_seat_on_any
    there-none all = false_from_ne_true (list_any test all_fragments) (λ hit.
        let (f, among, on) = member-list_any test all_fragments hit in
        let both : true ≡ false = sym on ∙ each f in cc)
      where
        home-off : (f : Fragment) (o : Option Seat) → homes_of st.homes s f.value ≡ o → is_on_any ns o ≡ false
        home-off f None is = refl
        home-off f (Some seat) is = all (held_on s f seat) (home-held s f seat is) refl

        target-off : (f : Fragment) (o : Option Lease) → lease_of st s f ≡ o → is_on_any ns (option_map (λ l. l.target) o) ≡ false
        target-off f None is = refl
        target-off f (Some l) is = all (held_by l) (target-held s f l is) (leases_in-own st.leases s f.value l is).0

        each : (f : Fragment) → test f ≡ false
        each f = ap₂ (λ (a b : Bool). a || b) (home-off f (homes_of st.homes s f.value) refl) (target-off f (lease_of st s f) refl)

    pub seats-words : (has_seat_on_any st ns s ≡ false) ↔ HasNoSeatOn st ns s
    seats-words = (none-there, there-none)

-- ---- as the program finds them

module _ (st : State) (ns : List NodeNo) (set : List Bool) (are : IsSetOf ns set) where
  pub on-set : (o : Option Seat) → is_on_set set o ≡ is_on_any ns o
  on-set None = refl
  on-set (Some seat) = are seat.node

  pub seats-as : (s : StripeNo) → list_any (has_seat_on_set set st s (homes_of st.homes s)) all_fragments ≡ has_seat_on_any st ns s
  unfolding has_seat_on_any
  seats-as s = λ i. list_any (λ (f : Fragment). on-set (homes_of st.homes s f.value) i || on-set (lease_target st s f) i) all_fragments
