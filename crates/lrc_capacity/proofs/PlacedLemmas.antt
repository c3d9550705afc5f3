-- A stripe that is tried by what is read of the nodes is placed by the rules.
use Rattle.std.proofs.Common.{◌≡◌, ℕ, Bool, true, false, ◌||◌, eqb, nat_lt, List, [], ◌∷◌, ◌++◌, map, fold, Option, Some, None, Result, Ok, Err, option_map, option_and_then, refl, sym, ap, ◌∙◌, subst}
use Rattle.std.specs.List.{Contains, list_any}
use Rattle.std.specs.Option.{option_map_or}
use Rattle.std.proofs.lemmas.Bool.{and_parts, eq-eqb, ne_eqb}
use Rattle.std.proofs.lemmas.Option.{same_Some}
use Rattle.std.proofs.lemmas.List.Elements.{All-weaker}
use Rattle.std.proofs.lemmas.List.Folds.{fold_stays, list_any-append}
use Rattle.lrc_code.specs.declared.codes.Code.{Code}
use Rattle.lrc_code.specs.declared.numbers.StripeNo.{StripeNo}
use Rattle.lrc_code.specs.declared.numbers.Fragment.{Fragment}
use Rattle.lrc_topology.specs.declared.NodeInfo.{NodeInfo}
use Rattle.lrc_topology.specs.declared.seat.Seat.{Seat}
use Rattle.lrc_topology.specs.declared.seat.Held.{Held}
use Rattle.lrc_topology.specs.Nodes.{AreNodes, node_at}
use Rattle.lrc_topology.specs.Seats.{free_slot, free_seat}
use Rattle.lrc_rules.specs.States.{State, has_stripe, code_of, held_by, seats_of, taken_seats, load, takes_seats}
use Rattle.lrc_rules.specs.Placement.{chosen, chosen_node, with_home, place_next}
use Rattle.lrc_rules.specs.Goodness.{AreSeated}
use Rattle.lrc_rules.specs.Steps.{with_stripe}
use Rattle.lrc_rules.proofs.MemberLemmas.{list_any-All, list_any-member}
use Rattle.lrc_rules.proofs.NodeLemmas.{node_at-member, seat_on}
use Rattle.lrc_rules.proofs.ChoiceLemmas.{node-fits, none-fitting, words-eligible}
use Rattle.lrc_rules.proofs.SeatingLemmas.{IsPlacing, placing-some}
use Rattle.lrc_capacity.specs.declared.room.NodeRoom.{NodeRoom}
use Rattle.lrc_capacity.specs.declared.room.Placed.{Placed}
use Rattle.lrc_capacity.specs.Capacities.{room_of, placed_until}
use Rattle.lrc_capacity.specs.Trials.{Trial, chosen_room, with_room, try_next, trial_of, can_seat}
use Rattle.lrc_capacity.proofs.RoomLemmas.{is_held, is_put, IsBeside, open-room, room-chosen, rooms-more}

-- ---- what is held beside a fragment

-- a stripe that the store lacks has no seat
pub none-beside : (nodes : List NodeInfo) (st : State) (code : Code) (s : StripeNo) → AreSeated nodes st → has_stripe st s ≡ false → IsBeside nodes s (with_stripe st code s) []
none-beside nodes st code s seated absent f test =
    list_any-All (is_held nodes s f test) (seats_of st)
    (All-weaker (λ h. Contains st.stripes h.stripe) (λ h. is_held nodes s f test h ≡ false)
    (λ h there. let other = ne_eqb h.stripe.value s.value (λ e. apart h there e) in rw other refl) (seats_of st) seated.there)
  where
    here : (ss : List StripeNo) (t : StripeNo) → Contains ss t → t.value ≡ s.value → list_any (λ (u : StripeNo). eqb s.value u.value) ss ≡ true
    here ss t there e = list_any-member (λ (u : StripeNo). eqb s.value u.value) ss t there (eq-eqb s.value t.value (sym e))

    apart : (h : Held) → Contains st.stripes h.stripe → h.stripe.value ≡ s.value → ⊥
    apart h there e = (
        let hit : has_stripe st s ≡ true = here st.stripes h.stripe there e in
        let both : true ≡ false = sym hit ∙ absent in cc)

or-moved : (a b c : Bool) → ((a || (b || false)) || c) ≡ ((a || c) || (b || false))
or-moved true b c = refl
or-moved false true true = refl
or-moved false true false = refl
or-moved false false true = refl
or-moved false false false = refl

module _ (nodes : List NodeInfo) (s : StripeNo) (st : State) (f : Fragment) (seat : Seat) (n : NodeInfo) (found : node_at nodes seat.node ≡ Some n) where
  abbrev home : Held
  home = record { stripe = s; fragment = f; seat = seat }

  own-held : (g : Fragment) (test : Fragment → NodeInfo → Bool) → is_held nodes s g test home ≡ is_put g test (record { fragment = f; node = n })
  own-held g test = rw (found, eq-eqb s.value s.value refl) refl

  -- one more fragment is placed
  pub more-beside : (beside : List Placed) → IsBeside nodes s st beside → IsBeside nodes s (with_home st s f seat) (beside ++ record { fragment = f; node = n } ∷ [])
  more-beside beside put g test =
      let held = is_held nodes s g test in
      let targets = map held_by st.leases in
      list_any-append held (st.homes ++ home ∷ []) targets
      ∙ ap (λ b. b || list_any held targets) (list_any-append held st.homes (home ∷ []))
      ∙ or-moved (list_any held st.homes) (held home) (list_any held targets)
      ∙ ap (λ b. b || (held home || false)) (sym (list_any-append held st.homes targets) ∙ put g test)
      ∙ ap (λ b. list_any (is_put g test) beside || (b || false)) (own-held g test)
      ∙ sym (list_any-append (is_put g test) beside (record { fragment = f; node = n } ∷ []))

-- ---- the fragments of a stripe

-- the fragment that found no seat
abbrev pub err_of : Result State Fragment → Option Fragment
err_of (Ok st) = None
err_of (Err f) = Some f

-- what a trial shows of these fragments, placed one after the other
pub record Shows (nodes : List NodeInfo) (s : StripeNo) (st : State) (fs : List Fragment) (t : Trial) : Type 0 where
  pub rooms : t.rooms ≡ map (room_of (placed_until nodes s st fs)) nodes
  pub beside : IsBeside nodes s (placed_until nodes s st fs) t.beside
  pub refused : t.refused ≡ err_of (fold (place_next nodes s) (Ok st) fs)
  pub done : (final : State) → fold (place_next nodes s) (Ok st) fs ≡ Ok final → placed_until nodes s st fs ≡ final
  pub seated : AreSeated nodes (placed_until nodes s st fs)
  pub coded : code_of (placed_until nodes s st fs) s ≡ code_of st s
  pub stripes : (placed_until nodes s st fs).stripes ≡ st.stripes

-- a trial that was refused stays as it is
stays : (code : Code) (t : Trial) (f : Fragment) → t.refused ≡ Some f → (fs : List Fragment) → trial_of code t fs ≡ t
stays code t f refused fs = fold_stays (try_next code) t (λ g. rw refused refl) fs

module _ (nodes : List NodeInfo) (known : AreNodes nodes) (s : StripeNo) (code : Code) where
  -- where the rule chooses a seat, it chooses the seat's node
  node-of : (st : State) (f : Fragment) (seat : Seat) → chosen nodes st s f ≡ Some seat → (n : NodeInfo) × (chosen_node nodes st s f ≡ Some n) × (seat.node ≡ n.number)
  unfolding chosen
  node-of st f seat e = by (chosen_node nodes st s f) refl e where
    on-slot : (n : NodeInfo) (o : Option ℕ) → option_map (λ slot. seat_on n.number slot) o ≡ Some seat → seat.node ≡ n.number
    on-slot n None is = absurd (cc)
    on-slot n (Some k) is = sym (ap (λ (a : Seat). a.node) (same_Some (seat_on n.number k) seat is))

    by : (o : Option NodeInfo) → chosen_node nodes st s f ≡ o → option_and_then (free_seat (taken_seats st)) o ≡ Some seat
        → (n : NodeInfo) × (chosen_node nodes st s f ≡ Some n) × (seat.node ≡ n.number)
    by None is e = absurd (cc)
    by (Some n) is e = (n, is, on-slot n (free_slot (taken_seats st) n) e)

  -- and where it chooses none, no node
  no-node : (st : State) (f : Fragment) → chosen nodes st s f ≡ None → (o : Option NodeInfo) → chosen_node nodes st s f ≡ o → o ≡ None
  no-node st f none None is = refl
  no-node st f none (Some n) is = absurd (none-fitting nodes st s f none n (node-fits nodes st s f n is))

  module _ (st : State) (f : Fragment) (fs : List Fragment) (beside : List Placed) (p : IsPlacing nodes s st (f ∷ fs)) (coded : code_of st s ≡ code) (put : IsBeside nodes s st beside) where
    abbrev begun : Trial
    begun = record { rooms = map (room_of st) nodes; beside = beside; refused = None }

    shows-none : chosen nodes st s f ≡ None → Shows nodes s st (f ∷ fs) (trial_of code begun (f ∷ fs))
    shows-none none =
        let missing : chosen_room code f beside (map (room_of st) nodes) ≡ None =
        room-chosen nodes known st p.seated code s f beside coded put ∙ ap (option_map (room_of st)) (no-node st f none (chosen_node nodes st s f) refl) in
        let stuck : trial_of code begun (f ∷ fs) ≡ record begun { refused = Some f } =
        ap (λ o. trial_of code (with_room begun f o) fs) missing ∙ stays code (record begun { refused = Some f }) f refl fs in
        let at : placed_until nodes s st (f ∷ fs) ≡ st = ap (λ o. option_map_or (λ seat. placed_until nodes s (with_home st s f seat) fs) o st) none in
        let err : fold (place_next nodes s) (Ok st) (f ∷ fs) ≡ Err f =
        ap (λ o. fold (place_next nodes s) (option_map_or (λ seat. Ok (with_home st s f seat)) o (Err f)) fs) none ∙ fold_stays (place_next nodes s) (Err f) (λ x. refl) fs in
        record {
          rooms = ap (λ (t : Trial). t.rooms) stuck ∙ ap (λ (x : State). map (room_of x) nodes) (sym at);
          beside = subst (λ (x : State). IsBeside nodes s x (trial_of code begun (f ∷ fs)).beside) (sym at)
              (subst (λ (t : Trial). IsBeside nodes s st t.beside) (sym stuck) put);
          refused = ap (λ (t : Trial). t.refused) stuck ∙ ap err_of (sym err);
          done = λ final e. absurd (let never : Err f ≡ Ok final = sym err ∙ e in cc);
          seated = subst (AreSeated nodes) (sym at) p.seated;
          coded = ap (λ (x : State). code_of x s) at;
          stripes = ap (λ (x : State). x.stripes) at;
        }

    shows-some : (seat : Seat) → chosen nodes st s f ≡ Some seat
        → ((next : State) (more : List Placed) → IsPlacing nodes s next fs → code_of next s ≡ code → IsBeside nodes s next more
        → Shows nodes s next fs (trial_of code (record { rooms = map (room_of next) nodes; beside = more; refused = None }) fs))
        → Shows nodes s st (f ∷ fs) (trial_of code begun (f ∷ fs))
    shows-some seat some again =
        let next = with_home st s f seat in
        let on = node-of st f seat some in
        let n = on.0 in
        let fitting = node-fits nodes st s f n on.1 in
        let found : node_at nodes seat.node ≡ Some n = ap (node_at nodes) on.2 ∙ node_at-member nodes known n fitting.known in
        let eligible : can_seat (room_of st n) ≡ true = open-room nodes known st p.seated n fitting.known ∙ words-eligible st n fitting.eligible in
        let room = (and_parts (takes_seats st n) (nat_lt (load st n.number) n.slots) eligible).1 in
        let here : chosen_room code f beside (map (room_of st) nodes) ≡ Some (room_of st n) =
        room-chosen nodes known st p.seated code s f beside coded put ∙ ap (option_map (room_of st)) on.1 in
        let more = beside ++ record { fragment = f; node = n } ∷ [] in
        let step : trial_of code begun (f ∷ fs) ≡ trial_of code (record { rooms = map (room_of next) nodes; beside = more; refused = None }) fs =
        ap (λ o. trial_of code (with_room begun f o) fs) here
        ∙ ap (λ (rs : List NodeRoom). trial_of code (record { rooms = rs; beside = more; refused = None }) fs) (rooms-more st s f seat nodes known n fitting.known on.2 room) in
        let shown = again next more (placing-some nodes known s st f fs seat p some) coded (more-beside nodes s st f seat n found beside put) in
        let at : placed_until nodes s st (f ∷ fs) ≡ placed_until nodes s next fs = ap (λ o. option_map_or (λ seat. placed_until nodes s (with_home st s f seat) fs) o st) some in
        let goes : fold (place_next nodes s) (Ok st) (f ∷ fs) ≡ fold (place_next nodes s) (Ok next) fs =
        ap (λ o. fold (place_next nodes s) (option_map_or (λ seat. Ok (with_home st s f seat)) o (Err f)) fs) some in
        record {
          rooms = ap (λ (t : Trial). t.rooms) step ∙ shown.rooms ∙ ap (λ (x : State). map (room_of x) nodes) (sym at);
          beside = subst (λ (x : State). IsBeside nodes s x (trial_of code begun (f ∷ fs)).beside) (sym at)
              (subst (λ (t : Trial). IsBeside nodes s (placed_until nodes s next fs) t.beside) (sym step) shown.beside);
          refused = ap (λ (t : Trial). t.refused) step ∙ shown.refused ∙ ap err_of (sym goes);
          done = λ final e. at ∙ shown.done final (sym goes ∙ e);
          seated = subst (AreSeated nodes) (sym at) shown.seated;
          coded = ap (λ (x : State). code_of x s) at ∙ shown.coded;
          stripes = ap (λ (x : State). x.stripes) at ∙ shown.stripes;
        }

    shows-next : (o : Option Seat) → chosen nodes st s f ≡ o
        → ((next : State) (more : List Placed) → IsPlacing nodes s next fs → code_of next s ≡ code → IsBeside nodes s next more
        → Shows nodes s next fs (trial_of code (record { rooms = map (room_of next) nodes; beside = more; refused = None }) fs))
        → Shows nodes s st (f ∷ fs) (trial_of code begun (f ∷ fs))
    shows-next None is again = shows-none is
    shows-next (Some seat) is again = shows-some seat is again

  -- what is read of the nodes after a trial is that of the state
  pub shows : (st : State) (fs : List Fragment) (beside : List Placed) → IsPlacing nodes s st fs → code_of st s ≡ code → IsBeside nodes s st beside
      → Shows nodes s st fs (trial_of code (record { rooms = map (room_of st) nodes; beside = beside; refused = None }) fs)
  shows st [] beside p coded put = record {
    rooms = refl;
    beside = put;
    refused = refl;
    done = λ final e. let same : st ≡ final = cc in same;
    seated = p.seated;
    coded = refl;
    stripes = refl;
  }
  shows st (f ∷ fs) beside p coded put = shows-next st f fs beside p coded put (chosen nodes st s f) refl
      (λ next more q own held. shows next fs more q own held)
