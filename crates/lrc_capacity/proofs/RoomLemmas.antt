-- What is read of the nodes of a state, and the node that the rule chooses.
use Rattle.std.proofs.Common.{◌≡◌, ℕ, zero, suc, ◌+◌, ◌<◌, ◌≤◌, Bool, true, false, not, ◌&&◌, cond, nat_lt, eqb, List, [], ◌∷◌, map, filter, is_some, option_map, arith, refl, sym, ap, ◌∙◌, subst, inl, inr, zero-add}
use Rattle.std.specs.List.{All, Contains, list_any, count_by, range_with_len}
use Rattle.std.specs.Option.{option_map_or}
use Rattle.std.proofs.lemmas.Bool.{cases_Bool, lt-ltb, le-ltb, ltb-true, ltb-false, eqb-true, eq-eqb}
use Rattle.std.proofs.lemmas.List.{map-append}
use Rattle.std.proofs.lemmas.List.Elements.{All-head, All-tail}
use Rattle.std.proofs.lemmas.List.Sums.{sum_by-cons, sum_by-append}
use Rattle.lrc_code.specs.declared.codes.Code.{Code}
use Rattle.lrc_code.specs.declared.numbers.StripeNo.{StripeNo}
use Rattle.lrc_code.specs.declared.numbers.NodeNo.{NodeNo}
use Rattle.lrc_code.specs.declared.numbers.Fragment.{Fragment}
use Rattle.lrc_code.specs.Numbers.{same_fragment}
use Rattle.lrc_code.specs.Order.{least}
use Rattle.lrc_topology.specs.declared.NodeInfo.{NodeInfo}
use Rattle.lrc_topology.specs.declared.seat.Seat.{Seat}
use Rattle.lrc_topology.specs.declared.seat.Held.{Held}
use Rattle.lrc_topology.specs.Nodes.{AreNodes, node_at}
use Rattle.lrc_topology.specs.Seats.{load_of, is_taken, first_slot}
use Rattle.lrc_slots.proofs.LeastLemmas.{filter-map, least-map}
use Rattle.lrc_rules.specs.States.{State, code_of, seats_of, taken_seats, load, takes_seats, is_eligible}
use Rattle.lrc_rules.specs.Placement.{clashes, is_beside, bars, fits, chosen_node, with_home}
use Rattle.lrc_rules.specs.Goodness.{AreSeated}
use Rattle.lrc_rules.proofs.MemberLemmas.{All-members}
use Rattle.lrc_rules.proofs.NodeLemmas.{node_at-member, same_node}
use Rattle.lrc_rules.proofs.TakenLemmas.{load-parts}
use Rattle.lrc_bars.proofs.PlanLemmas.{filter-agree}
use Rattle.lrc_bars.proofs.TieLemmas.{standing-slots, load-seats}
use Rattle.lrc_capacity.specs.declared.room.Placed.{Placed}
use Rattle.lrc_capacity.specs.Capacities.{room_of}
use Rattle.lrc_capacity.specs.Trials.{is_lighter_room, can_seat, rules_out, may_go, chosen_room, one_more_on}

-- ---- a slot is free where less are taken than there are

one-most : (b : Bool) → cond {A = ℕ} b 1 0 ≤ 1
one-most true = omega arith
one-most false = omega arith

count-most : (t : ℕ → Bool) (a n : ℕ) → count_by t (range_with_len a n) ≤ n
count-most t a zero = omega arith
count-most t a (suc n) =
    let more = count-most t (a + 1) n in
    let is = sum_by-cons (λ j. cond (t j) 1 0) a (range_with_len (a + 1) n) in
    let one = one-most (t a) in
    omega (arith, more, is, one)

both-more : (c n : ℕ) → nat_lt (1 + c) (suc n) ≡ nat_lt c n
both-more c n = elim (cases_Bool (nat_lt c n)) [
  | inl low ↦ let less = ltb-true c n low in lt-ltb (1 + c) (suc n) (omega (arith, less)) ∙ sym low
  | inr high ↦ let more = ltb-false c n high in le-ltb (1 + c) (suc n) (omega (arith, more)) ∙ sym high
]

free-counted : (t : ℕ → Bool) (a n : ℕ) → is_some (first_slot t a n) ≡ nat_lt (count_by t (range_with_len a n)) n
free-counted t a zero = refl
free-counted t a (suc n) =
    let is = sum_by-cons (λ j. cond (t j) 1 0) a (range_with_len (a + 1) n) in
    elim (cases_Bool (t a)) [
      | inl hit ↦ rw (is, hit) (free-counted t (a + 1) n ∙ sym (both-more (count_by t (range_with_len (a + 1) n)) n))
      | inr miss ↦
          let few = count-most t (a + 1) n in
          let low : count_by t (range_with_len (a + 1) n) < suc n = omega (arith, few) in
          rw (is, miss, zero-add) (sym (lt-ltb (count_by t (range_with_len (a + 1) n)) (suc n) low))
    ]

-- ---- what is held beside a fragment

-- the held seat is of another fragment of the stripe, and the test holds of it and its node
abbrev pub is_held : List NodeInfo → StripeNo → Fragment → (Fragment → NodeInfo → Bool) → Held → Bool
is_held nodes s f test h = is_beside s f h && option_map_or (test h.fragment) (node_at nodes h.seat.node) false

-- the same of a fragment that is placed
abbrev pub is_put : Fragment → (Fragment → NodeInfo → Bool) → Placed → Bool
is_put f test p = not (same_fragment p.fragment f) && test p.fragment p.node

-- the held seats of the stripe are those of the fragments that are placed
abbrev pub IsBeside : List NodeInfo → StripeNo → State → List Placed → Type 0
IsBeside nodes s st beside = (f : Fragment) (test : Fragment → NodeInfo → Bool) → list_any (is_held nodes s f test) (seats_of st) ≡ list_any (is_put f test) beside

-- ---- the choice

module _ (nodes : List NodeInfo) (known : AreNodes nodes) (st : State) (seated : AreSeated nodes st) where
  -- a node has a free slot where it has less seats than slots
  pub open-room : (n : NodeInfo) → Contains nodes n → can_seat (room_of st n) ≡ is_eligible st n
  open-room n here =
      let held = load-seats nodes (taken_seats st) n (node_at-member nodes known n here) seated.single (standing-slots nodes st (taken_seats st) seated.standing) in
      ap (λ b. takes_seats st n && b) (ap (λ k. nat_lt k n.slots) (sym held) ∙ sym (free-counted (is_taken (taken_seats st) n.number) 0 n.slots))

  module _ (code : Code) (s : StripeNo) (f : Fragment) (beside : List Placed) (coded : code_of st s ≡ code) (put : IsBeside nodes s st beside) where
    -- the same of what rules out a node
    pub bars-put : (n : NodeInfo) → list_any (bars nodes st s f n) (seats_of st) ≡ list_any (rules_out code f n) beside
    bars-put n = ap (λ c. list_any (is_held nodes s f (λ g m. clashes c f n g m)) (seats_of st)) coded ∙ put f (λ g m. clashes code f n g m)

    may-fits : (n : NodeInfo) → Contains nodes n → may_go code f beside (room_of st n) ≡ fits nodes st s f n
    may-fits n here = ap (λ b. b && not (list_any (rules_out code f n) beside)) (open-room n here) ∙ ap (λ b. is_eligible st n && not b) (sym (bars-put n))

    -- the node that is chosen by what is read of each is the one that the rule chooses
    pub room-chosen : chosen_room code f beside (map (room_of st) nodes) ≡ option_map (room_of st) (chosen_node nodes st s f)
    room-chosen =
        ap (least is_lighter_room) (filter-map (may_go code f beside) (room_of st) nodes
        ∙ ap (map (room_of st)) (filter-agree (λ n. may_go code f beside (room_of st n)) (fits nodes st s f) nodes
        (All-members (λ n. may_go code f beside (room_of st n) ≡ fits nodes st s f n) nodes may-fits)))
        ∙ least-map is_lighter_room (room_of st) (filter (fits nodes st s f) nodes)

-- ---- one more home

pub map-agree : {X Y : Type 0} (g h : X → Y) (xs : List X) → All (λ x. g x ≡ h x) xs → map g xs ≡ map h xs
map-agree g h [] all = refl
map-agree g h (x ∷ xs) all =
    ap (λ y. y ∷ map g xs) (All-head (λ x. g x ≡ h x) x xs all) ∙ ap (λ ys. h x ∷ ys) (map-agree g h xs (All-tail (λ x. g x ≡ h x) x xs all))

pub map-twice : {X Y Z : Type 0} (g : Y → Z) (h : X → Y) (xs : List X) → map g (map h xs) ≡ map (λ x. g (h x)) xs
map-twice g h [] = refl
map-twice g h (x ∷ xs) = ap (λ ys. g (h x) ∷ ys) (map-twice g h xs)

module _ (st : State) (s : StripeNo) (f : Fragment) (seat : Seat) where
  abbrev home : Held
  home = record { stripe = s; fragment = f; seat = seat }

  -- one more seat is held on its node
  load-more : (n : NodeNo) → load (with_home st s f seat) n ≡ load st n + cond (eqb seat.node.value n.value) 1 0
  load-more n =
      let own = load-parts st n in
      let all = load-parts (with_home st s f seat) n in
      let count = λ (a : Seat). cond (eqb a.node.value n.value) 1 0 in
      let homes = ap (λ (seats : List Seat). load_of seats n) (map-append (λ (h : Held). h.seat) st.homes (home ∷ []))
      ∙ sum_by-append count (map (λ (h : Held). h.seat) st.homes) (seat ∷ []) in
      let one = sum_by-cons count seat [] in
      omega (arith, own, all, homes, one)

  module _ (nodes : List NodeInfo) (known : AreNodes nodes) (m : NodeInfo) (listed : Contains nodes m) (on : seat.node ≡ m.number)
      (room : nat_lt (load st m.number) m.slots ≡ true) where
    room-more : (n : NodeInfo) → Contains nodes n → one_more_on m.number (room_of st n) ≡ room_of (with_home st s f seat) n
    room-more n here =
        let numbers : eqb seat.node.value n.number.value ≡ eqb m.number.value n.number.value = ap (λ (k : NodeNo). eqb k.value n.number.value) on in
        elim (cases_Bool (eqb n.number.value m.number.value)) [
          | inl hit ↦
              let value = eqb-true n.number.value m.number.value hit in
              let same : n ≡ m = same_node nodes known n m here listed value in
              let free : nat_lt (load st n.number) n.slots ≡ true = subst (λ (k : NodeInfo). nat_lt (load st k.number) k.slots ≡ true) (sym same) room in
              let own : eqb seat.node.value n.number.value ≡ true = numbers ∙ eq-eqb m.number.value n.number.value (sym value) in
              let is : load (with_home st s f seat) n.number ≡ load st n.number + 1 = load-more n.number ∙ ap (λ b. load st n.number + cond b 1 0) own in
              rw (hit, free) (ap (λ (k : ℕ). record (room_of st n) { load = k }) (sym is))
          | inr miss ↦
              let other : eqb m.number.value n.number.value ≡ false = turned m.number.value n.number.value miss in
              let is : load (with_home st s f seat) n.number ≡ load st n.number = load-more n.number ∙ ap (λ b. load st n.number + cond b 1 0) (numbers ∙ other) ∙ add-zero (load st n.number) in
              rw miss (ap (λ (k : ℕ). record (room_of st n) { load = k }) (sym is))
        ]
      where
        turned : (a b : ℕ) → eqb b a ≡ false → eqb a b ≡ false
        turned a b miss = elim (cases_Bool (eqb a b)) [
          | inl hit ↦ absurd (let e : eqb b a ≡ true = eq-eqb b a (sym (eqb-true a b hit)) in let both : true ≡ false = sym e ∙ miss in cc)
          | inr other ↦ other
        ]

        add-zero : (k : ℕ) → k + 0 ≡ k
        add-zero k = omega arith

    -- and this is then read of the nodes
    pub rooms-more : map (one_more_on m.number) (map (room_of st) nodes) ≡ map (room_of (with_home st s f seat)) nodes
    rooms-more =
        map-twice (one_more_on m.number) (room_of st) nodes
        ∙ map-agree (λ n. one_more_on m.number (room_of st n)) (room_of (with_home st s f seat)) nodes
        (All-members (λ n. one_more_on m.number (room_of st n) ≡ room_of (with_home st s f seat) n) nodes room-more)
