-- A new home or lease on a seat that is apart from the others, and the placement of a stripe, keep the seats in
-- order.
use Rattle.std.proofs.Common.{[], ◌≡◌, ◌≢◌, ◌<◌, IsTrue, Bool, true, not, ◌&&◌, eqb, append_assoc, List, ◌∷◌, ◌++◌, map, fold, Option, Some, None, Ok, Err, IfSome, IsSomeAnd, arith, refl, sym, ap, ◌∙◌, subst}
use Rattle.std.specs.List.{All, AllPairs, Contains, list_any}
use Rattle.std.specs.Option.{option_map_or}
use Rattle.std.proofs.lemmas.Bool.{eqb-false, not-true, and_parts}
use Rattle.std.proofs.lemmas.Option.{IfSome_then}
use Rattle.std.proofs.lemmas.List.{map-append}
use Rattle.std.proofs.lemmas.List.Elements.{All-head, All-tail, All-append, All-push, All-weaker, All-map}
use Rattle.std.proofs.lemmas.List.Folds.{fold_stays}
use Rattle.std.proofs.lemmas.List.Kept.{AllPairs-cons}
use Rattle.lrc_code.specs.declared.codes.Code.{Code}
use Rattle.lrc_code.specs.declared.codes.Code.TheVariants.{Wide, Narrow}
use Rattle.lrc_code.specs.declared.numbers.StripeNo.{StripeNo}
use Rattle.lrc_code.specs.declared.numbers.Fragment.{Fragment}
use Rattle.lrc_code.specs.Codes.{fragments, has_fragment, all_fragments}
use Rattle.lrc_code.proofs.CodesLemmas.{share_class-turn}
use Rattle.lrc_topology.specs.declared.NodeInfo.{NodeInfo}
use Rattle.lrc_topology.specs.declared.seat.Seat.{Seat}
use Rattle.lrc_topology.specs.declared.seat.Held.{Held}
use Rattle.lrc_topology.specs.Nodes.{AreNodes, node_at}
use Rattle.lrc_terms.specs.declared.mode.Mode.TheVariants.{Active, Gone}
use Rattle.lrc_terms.specs.declared.lease.Lease.{Lease}
use Rattle.lrc_terms.proofs.LeaseLemmas.{one_each-append}
use Rattle.lrc_rules.specs.States.{State, mode_of, code_of, held_by, lease_of, seats_of, taken_seats}
use Rattle.lrc_rules.specs.Leases.{with_lease}
use Rattle.lrc_rules.specs.Placement.{chosen, with_home, place_next}
use Rattle.lrc_rules.specs.Choices.{AreApart, IsApartFrom, IsChoice}
use Rattle.lrc_rules.specs.Goodness.{IsStanding, KeepApart, AreSeated}
use Rattle.lrc_rules.proofs.MemberLemmas.{All-list_any, All-members, AllPairs-head, AllPairs-tail}
use Rattle.lrc_rules.proofs.NodeLemmas.{node_at-member, seat_on}
use Rattle.lrc_rules.proofs.SeatingLists.{All-unmap, All-both, pairs-map, pairs-unmap, pairs-push}
use Rattle.lrc_rules.proofs.PairLemmas.{All-left, All-right, pairs-insert}
use Rattle.lrc_rules.proofs.ChoiceLemmas.{chosen-choice}

-- no held seat is of this fragment of the stripe
abbrev pub HasNone : StripeNo → List Held → Fragment → Type 0
HasNone s seats f = All (λ h. h.stripe ≡ s → h.fragment ≢ f) seats

-- ---- one more home

abbrev pub held_on : StripeNo → Fragment → Seat → Held
held_on s f seat = record { stripe = s; fragment = f; seat = seat }

-- what holds for all held seats holds for all homes
pub homes-all : (P : Held → Type 0) (st : State) → All P (seats_of st) → All P st.homes
homes-all P st all = All-left P st.homes (map held_by st.leases) all

-- and for all leases, as held seats
pub leases-all : (P : Held → Type 0) (st : State) → All P (seats_of st) → All (λ l. P (held_by l)) st.leases
leases-all P st all = All-unmap P held_by st.leases (All-right P st.homes (map held_by st.leases) all)

AreApart-turn : (code : Code) (f g : Fragment) (n m : NodeInfo) → AreApart code f n g m → AreApart code g m f n
AreApart-turn code f g n m apart =
    record { faults = λ e. apart.faults (sym e); upgrades = λ class e. apart.upgrades (share_class-turn code f g ∙ class) (sym e) }

apart-turn : (code : Code) (f g : Fragment) (o p : Option NodeInfo) → IfSome o (λ n. IfSome p (λ m. AreApart code f n g m))
    → IfSome p (λ m. IfSome o (λ n. AreApart code g m f n))
apart-turn code f g None None h = tt
apart-turn code f g None (Some m) h = tt
apart-turn code f g (Some n) None h = tt
apart-turn code f g (Some n) (Some m) h = AreApart-turn code f g n m h

-- being apart is symmetric
pub KeepApart-turn : (nodes : List NodeInfo) (st : State) (h g : Held) → KeepApart nodes st h g → KeepApart nodes st g h
KeepApart-turn nodes st h g apart stripe fragment =
    subst (λ (r : StripeNo). IfSome (node_at nodes g.seat.node) (λ n. IfSome (node_at nodes h.seat.node) (λ m. AreApart (code_of st r) g.fragment n h.fragment m)))
    (sym stripe)
    (apart-turn (code_of st h.stripe) h.fragment g.fragment (node_at nodes h.seat.node) (node_at nodes g.seat.node)
    (apart (sym stripe) (λ e. fragment (sym e))))

other-turn : (h g : Held) → h.seat ≢ g.seat → g.seat ≢ h.seat
other-turn h g other = λ e. other (sym e)

-- the held seat is of a fragment that the stripe's code has
abbrev pub IsWithin : State → Held → Type 0
IsWithin st h = IsTrue (has_fragment (code_of st h.stripe) h.fragment.value)

-- a held seat that may be added: its node is not gone, the seat is free, and it is apart from the others
pub record MayStand (nodes : List NodeInfo) (st : State) (y : Held) : Type 0 where
  pub standing : IsStanding nodes st y.seat
  pub others : All (λ h. h.seat ≢ y.seat) (seats_of st)
  pub apart : All (λ h. KeepApart nodes st h y) (seats_of st)
  pub there : Contains st.stripes y.stripe
  pub within : IsTrue (has_fragment (code_of st y.stripe) y.fragment.value)

module _ (nodes : List NodeInfo) (st : State) (seated : AreSeated nodes st) where
  pub held-single : AllPairs (λ h g. h.seat ≢ g.seat) (seats_of st)
  held-single = pairs-unmap (λ a b. a ≢ b) (λ (h : Held). h.seat) (seats_of st) seated.single

  pub held-standing : All (λ h. IsStanding nodes st h.seat) (seats_of st)
  held-standing = All-unmap (IsStanding nodes st) (λ (h : Held). h.seat) (seats_of st) seated.standing

  -- what holds for all held seats and for a new home
  All-inserted : (P : Held → Type 0) (y : Held) → All P (seats_of st) → P y → All P (seats_of (record st { homes = st.homes ++ y ∷ [] }))
  All-inserted P y all own =
      let targets = map held_by st.leases in
      All-append P (st.homes ++ y ∷ []) targets (All-push P st.homes y (All-left P st.homes targets all) own) (All-right P st.homes targets all)

  -- a new home of a fragment that had none
  pub inserted-seated : (y : Held) → MayStand nodes st y → HasNone y.stripe st.homes y.fragment
      → AreSeated nodes (record st { homes = st.homes ++ y ∷ [] })
  inserted-seated y may absent =
      let st' = record st { homes = st.homes ++ y ∷ [] } in
      let targets = map held_by st.leases in
      record {
        stripes = seated.stripes;
        single =
            pairs-map (λ a b. a ≢ b) (λ (h : Held). h.seat) (seats_of st')
            (pairs-insert (λ h g. h.seat ≢ g.seat) other-turn st.homes targets y held-single may.others);
        standing =
            All-map (IsStanding nodes st) (λ (h : Held). h.seat) (seats_of st')
            (All-inserted (λ h. IsStanding nodes st h.seat) y held-standing may.standing);
        lawful = pairs-insert (KeepApart nodes st) (KeepApart-turn nodes st) st.homes targets y seated.lawful may.apart;
        one_home = pairs-push (λ h g. h.stripe ≡ g.stripe → h.fragment ≢ g.fragment) st.homes y seated.one_home absent;
        one_lease = seated.one_lease;
        coded = seated.coded;
        there = All-inserted (λ h. Contains st.stripes h.stripe) y seated.there may.there;
        within = All-inserted (IsWithin st) y seated.within may.within;
        reachable = seated.reachable;
      }

  -- a new lease of a fragment that had none
  pub leased-seated : (l : Lease) → MayStand nodes st (held_by l) → lease_of st l.stripe l.fragment ≡ None → AreSeated nodes (with_lease st l)
  leased-seated l may none =
      let y = held_by l in
      let held : seats_of (with_lease st l) ≡ seats_of st ++ y ∷ [] =
      ap (λ (hs : List Held). st.homes ++ hs) (map-append held_by st.leases (l ∷ [])) ∙ sym
      (append_assoc st.homes (map held_by st.leases) (y ∷ [])) in
      record {
        stripes = seated.stripes;
        single = pairs-map (λ a b. a ≢ b) (λ (h : Held). h.seat) (seats_of (with_lease st l))
            (subst (AllPairs (λ h g. h.seat ≢ g.seat)) (sym held) (pairs-push (λ h g. h.seat ≢ g.seat) (seats_of st) y held-single may.others));
        standing = All-map (IsStanding nodes st) (λ (h : Held). h.seat) (seats_of (with_lease st l))
            (subst (All (λ h. IsStanding nodes st h.seat)) (sym held)
            (All-push (λ h. IsStanding nodes st h.seat) (seats_of st) y held-standing may.standing));
        lawful = subst (AllPairs (KeepApart nodes st)) (sym held) (pairs-push (KeepApart nodes st) (seats_of st) y seated.lawful may.apart);
        one_home = seated.one_home;
        one_lease = one_each-append st.leases l seated.one_lease none;
        coded = seated.coded;
        there =
            subst (All (λ h. Contains st.stripes h.stripe)) (sym held)
            (All-push (λ h. Contains st.stripes h.stripe) (seats_of st) y seated.there may.there);
        within = subst (All (IsWithin st)) (sym held) (All-push (IsWithin st) (seats_of st) y seated.within may.within);
        reachable = seated.reachable;
      }

module _ (nodes : List NodeInfo) (known : AreNodes nodes) (st : State) (s : StripeNo) (f : Fragment) (seat : Seat) where
  -- a chosen seat differs from each held seat
  pub choice-new : IsChoice nodes st s f seat → All (λ a. a ≢ seat) (taken_seats st)
  choice-new choice =
      All-members (λ a. a ≢ seat) (taken_seats st)
      (λ a here same. choice.free.free (subst (Contains (taken_seats st)) (same ∙ ap (λ n. seat_on n seat.slot) choice.on) here))

  choice-found : IsChoice nodes st s f seat → (n : NodeInfo) → Contains nodes n → seat.node ≡ n.number → node_at nodes seat.node ≡ Some n
  choice-found choice n here on = ap (node_at nodes) on ∙ node_at-member nodes known n here

  -- its node is not gone
  choice-present : IsChoice nodes st s f seat → mode_of st seat.node ≢ Gone
  choice-present choice gone = (
      let active : mode_of st seat.node ≡ Active = ap (mode_of st) choice.on ∙ choice.fitting.eligible.active in
      let both : Active ≡ Gone = sym active ∙ gone in cc
      )

  choice-standing : IsChoice nodes st s f seat → IsStanding nodes st seat
  choice-standing choice =
      subst (λ o. IsSomeAnd o (λ (n : NodeInfo). (seat.slot < n.slots) × (mode_of st seat.node ≢ Gone)))
      (sym (choice-found choice choice.node choice.fitting.known choice.on))
      (choice.free.within, choice-present choice)

  -- it is apart from the seats of the stripe's other fragments
  choice-apart : (choice : IsChoice nodes st s f seat) (h : Held) → IsApartFrom nodes st s f choice.node h → KeepApart nodes st h (held_on s f seat)
  choice-apart choice h apart stripe fragment =
      IfSome_then (node_at nodes h.seat.node) (apart stripe fragment) (λ m a.
      subst (λ o. IfSome o (λ n. AreApart (code_of st h.stripe) h.fragment m f n))
      (sym (choice-found choice choice.node choice.fitting.known choice.on))
      (subst (λ t. AreApart (code_of st t) h.fragment m f choice.node) (sym stripe) (AreApart-turn (code_of st s) f h.fragment choice.node m a)))

  pub choice-stands : IsChoice nodes st s f seat → Contains st.stripes s → IsTrue (has_fragment (code_of st s) f.value) → MayStand nodes st (held_on s f seat)
  choice-stands choice there own = record {
    standing = choice-standing choice;
    others = All-unmap (λ a. a ≢ seat) (λ (h : Held). h.seat) (seats_of st) (choice-new choice);
    apart =
        All-weaker (IsApartFrom nodes st s f choice.node) (λ h. KeepApart nodes st h (held_on s f seat)) (choice-apart choice)
        (seats_of st) choice.fitting.lawful;
    there = there;
    within = own;
  }

  -- a home on a chosen seat, for a fragment without one
  pub home-seated : AreSeated nodes st → IsChoice nodes st s f seat → Contains st.stripes s → IsTrue (has_fragment (code_of st s) f.value) → HasNone s st.homes f
      → AreSeated nodes (with_home st s f seat)
  home-seated seated choice there own absent = inserted-seated nodes st seated (held_on s f seat) (choice-stands choice there own) absent

-- ---- placement

-- what holds while the fragments of a stripe are placed: the remaining ones have no homes
pub record IsPlacing (nodes : List NodeInfo) (s : StripeNo) (st : State) (rest : List Fragment) : Type 0 where
  pub seated : AreSeated nodes st
  pub there : Contains st.stripes s
  pub distinct : AllPairs (λ f g. f ≢ g) rest
  pub own : All (λ f. IsTrue (has_fragment (code_of st s) f.value)) rest
  pub absent : All (HasNone s st.homes) rest

module _ (nodes : List NodeInfo) (known : AreNodes nodes) (s : StripeNo) where
  pub placing-some : (st : State) (f : Fragment) (fs : List Fragment) (seat : Seat) → IsPlacing nodes s st (f ∷ fs) → chosen nodes st s f ≡ Some seat
      → IsPlacing nodes s (with_home st s f seat) fs
  placing-some st f fs seat p e =
      let absent = All-head (HasNone s st.homes) f fs p.absent in
      record {
        seated = home-seated nodes known st s f seat p.seated (chosen-choice nodes st s f seat known e) p.there
            (All-head (λ g. IsTrue (has_fragment (code_of st s) g.value)) f fs p.own) absent;
        there = p.there;
        distinct = AllPairs-tail (λ f g. f ≢ g) f fs p.distinct;
        own = All-tail (λ g. IsTrue (has_fragment (code_of st s) g.value)) f fs p.own;
        absent = All-weaker (λ g. HasNone s st.homes g × (f ≢ g)) (HasNone s (st.homes ++ held_on s f seat ∷ []))
            (λ g parts. All-push (λ h. h.stripe ≡ s → h.fragment ≢ g) st.homes (held_on s f seat) parts.0 (λ stripe same. parts.1 same)) fs
            (All-both (HasNone s st.homes) (λ g. f ≢ g) fs (All-tail (HasNone s st.homes) f fs p.absent)
            (AllPairs-head (λ f g. f ≢ g) f fs p.distinct));
      }

  placing-next : (st : State) (f : Fragment) (fs : List Fragment) (final : State) → IsPlacing nodes s st (f ∷ fs)
      → ((next : State) → IsPlacing nodes s next fs → fold (place_next nodes s) (Ok next) fs ≡ Ok final → AreSeated nodes final) → (o : Option Seat)
      → chosen nodes st s f ≡ o
      → fold (place_next nodes s) (option_map_or (λ seat. Ok (with_home st s f seat)) o (Err f)) fs ≡ Ok final → AreSeated nodes final
  placing-next st f fs final p again None none e =
      absurd (let stuck = fold_stays (place_next nodes s) (Err f) (λ x. refl) fs in let never : Err f ≡ Ok final = sym stuck ∙ e in cc)
  placing-next st f fs final p again (Some seat) some e = again (with_home st s f seat) (placing-some st f fs seat p some) e

  pub placing : (st : State) (fs : List Fragment) (final : State) → IsPlacing nodes s st fs → fold (place_next nodes s) (Ok st) fs ≡ Ok final
      → AreSeated nodes final
  placing st [] final p e = let same : st ≡ final = cc in subst (AreSeated nodes) same p.seated
  placing st (f ∷ fs) final p e = placing-next st f fs final p (λ next q g. placing next fs final q g) (chosen nodes st s f) refl e

are_distinct : List Fragment → Bool
are_distinct [] = true
are_distinct (f ∷ fs) = not (list_any (λ (g : Fragment). eqb f.value g.value) fs) && are_distinct fs

distinct-from : (fs : List Fragment) → are_distinct fs ≡ true → AllPairs (λ f g. f ≢ g) fs
unfolding are_distinct
distinct-from [] e = λ i j d below within. absurd (omega arith)
distinct-from (f ∷ fs) e =
    let parts = and_parts (not (list_any (λ (g : Fragment). eqb f.value g.value) fs)) (are_distinct fs) e in
    AllPairs-cons (λ f g. f ≢ g) f fs
    (All-weaker _ (λ g. f ≢ g) (λ g other same. eqb-false f.value g.value other (ap (λ (x : Fragment). x.value) same)) fs
    (All-list_any (λ (g : Fragment). eqb f.value g.value) fs (not-true _ parts.0)))
    (distinct-from fs parts.1)

-- the fragments of a stripe are distinct
pub fragments-distinct : (code : Code) → AllPairs (λ f g. f ≢ g) (fragments code)
unfolding are_distinct
fragments-distinct Wide = distinct-from all_fragments refl
fragments-distinct Narrow = distinct-from (fragments Narrow) refl
