-- The seat that a table gives is the one that the rule chooses, also beside planned homes that the table does not have.
use Rattle.std.proofs.Common.{[], arith, ◌↔◌, ◌≡◌, ◌≢◌, ℕ, ◌+◌, Bool, true, false, not, cond, ◌&&◌, ◌||◌, eqb, List, ◌∷◌, ◌++◌, map, filter, fold, Option, Some, None, is_some, option_map, option_and_then, zero-add, append-nil, refl, sym, ap, ◌∙◌, subst, inl, inr}
use Rattle.std.proofs.Math.Path.{fun_ext}
use Rattle.std.specs.List.{All, AllPairs, Contains, list_any, count_by, range_with_len}
use Rattle.std.proofs.lemmas.Bool.{cases_Bool, eqb-true, eq-eqb, and_parts, or_parts, and_right, not-true}
use Rattle.std.proofs.lemmas.List.{map-append}
use Rattle.std.proofs.lemmas.List.Elements.{All-nil, All-cons, All-head, All-tail, All-weaker, All-map, Contains-append_left, Contains-append_right, Contains-append_cases}
use Rattle.std.proofs.lemmas.List.Sums.{sum_by-cons, sum_by-append}
use Rattle.std.proofs.lemmas.List.Folds.{list_any-append}
use Rattle.lrc_code.specs.declared.codes.Code.{Code}
use Rattle.lrc_code.specs.declared.numbers.StripeNo.{StripeNo}
use Rattle.lrc_code.specs.declared.numbers.NodeNo.{NodeNo}
use Rattle.lrc_code.specs.declared.numbers.Fragment.{Fragment}
use Rattle.lrc_code.specs.Order.{better, least}
use Rattle.lrc_topology.specs.declared.NodeInfo.{NodeInfo}
use Rattle.lrc_topology.specs.declared.seat.Seat.{Seat}
use Rattle.lrc_topology.specs.declared.seat.Held.{Held}
use Rattle.lrc_topology.specs.Nodes.{AreNodes, node_at}
use Rattle.lrc_topology.specs.Seats.{load_of, is_taken, first_slot, free_seat, is_preferred}
use Rattle.lrc_slots.specs.Slots.{least_free, least_free_at}
use Rattle.lrc_slots.specs.Next.{may_take, is_chosen_before, next_node}
use Rattle.lrc_rules.specs.States.{State, held_by, seats_of, taken_seats, takes_seats, is_eligible}
use Rattle.lrc_rules.specs.Placement.{bars, fits, chosen, chosen_node, is_beside}
use Rattle.lrc_rules.specs.Goodness.{AreSeated}
use Rattle.lrc_rules.specs.Steps.{with_stripe}
use Rattle.lrc_bars.specs.Ties.{table_of, bars_of, bars_in, next_seat, with_homes}
use Rattle.lrc_rules.proofs.MemberLemmas.{All-members, filter-member, map-member}
use Rattle.lrc_rules.proofs.TakenLemmas.{member-map, taken-same, taken-cases, home-seat, target-seat, load-parts}
use Rattle.lrc_code.proofs.OrderLemmas.{least-listed}
use Rattle.lrc_rules.proofs.NodeLemmas.{node_at-member, seat_on}
use Rattle.lrc_rules.proofs.ChoiceLemmas.{chosen-choice, choice-slot}
use Rattle.lrc_bars.proofs.BarLemmas.{bars_in-same}
use Rattle.lrc_rules.proofs.CodedLemmas.{code-own}
use Rattle.lrc_bars.proofs.TieLemmas.{HasSlot, standing-slots, load-seats, bars-domains, may_take-eligible}

-- ---- lists

-- two orders that agree on a list have one least element there
module _ {X : Type 0} (before after : X → X → Bool) (P : X → Type 0) (agree : (x y : X) → P x → P y → before x y ≡ after x y) where
  least_from-agree : (best : X) (xs : List X) → P best → All P xs → fold (better before) (Some best) xs ≡ fold (better after) (Some best) xs
  least_from-agree best [] p all = refl
  least_from-agree best (x ∷ xs) p all = elim (cases_Bool (after x best)) [
    | inl first ↦ rw (agree x best (All-head P x xs all) p, first) (least_from-agree x xs (All-head P x xs all) (All-tail P x xs all))
    | inr later ↦ rw (agree x best (All-head P x xs all) p, later) (least_from-agree best xs p (All-tail P x xs all))
  ]

  pub least-agree : (xs : List X) → All P xs → least before xs ≡ least after xs
  least-agree [] all = refl
  least-agree (x ∷ xs) all = least_from-agree x xs (All-head P x xs all) (All-tail P x xs all)

pub filter-agree : {X : Type 0} (p q : X → Bool) (xs : List X) → All (λ x. p x ≡ q x) xs → filter p xs ≡ filter q xs
filter-agree p q [] all = refl
filter-agree p q (x ∷ xs) all = elim (cases_Bool (q x)) [
  | inl hit ↦ rw (All-head (λ x. p x ≡ q x) x xs all, hit) (ap (λ ys. x ∷ ys) (filter-agree p q xs (All-tail (λ x. p x ≡ q x) x xs all)))
  | inr miss ↦ rw (All-head (λ x. p x ≡ q x) x xs all, miss) (filter-agree p q xs (All-tail (λ x. p x ≡ q x) x xs all))
]

or_none : (b : Bool) → (b || false) ≡ b
or_none true = refl
or_none false = refl

-- ---- seats that are on other nodes change nothing of a node

module _ (n : NodeNo) where
  off-any : (k : ℕ) (more : List Seat) → All (λ a. eqb a.node.value n.value ≡ false) more → is_taken more n k ≡ false
  off-any k [] off = refl
  off-any k (a ∷ as') off = rw (All-head (λ (a : Seat). eqb a.node.value n.value ≡ false) a as' off) (off-any k as' (All-tail (λ (a : Seat). eqb a.node.value n.value ≡ false) a as' off))

  off-taken : (seats more : List Seat) → All (λ a. eqb a.node.value n.value ≡ false) more → is_taken (seats ++ more) n ≡ is_taken seats n
  off-taken seats more off = fun_ext (λ k. list_any-append (λ (a : Seat). eqb a.node.value n.value && eqb a.slot k) seats more ∙ ap (λ b. is_taken seats n k || b) (off-any k more off) ∙ or_none (is_taken seats n k))

  off-none : (more : List Seat) → All (λ a. eqb a.node.value n.value ≡ false) more → load_of more n ≡ 0
  off-none [] off = refl
  off-none (a ∷ as') off =
      sum_by-cons (λ (a : Seat). cond (eqb a.node.value n.value) 1 0) a as'
      ∙ rw (All-head (λ (a : Seat). eqb a.node.value n.value ≡ false) a as' off, zero-add) (off-none as' (All-tail (λ (a : Seat). eqb a.node.value n.value ≡ false) a as' off))

  off-load : (seats more : List Seat) → All (λ a. eqb a.node.value n.value ≡ false) more → load_of (seats ++ more) n ≡ load_of seats n
  off-load [] more off = off-none more off
  off-load (a ∷ as') more off =
      sum_by-cons (λ (a : Seat). cond (eqb a.node.value n.value) 1 0) a (as' ++ more) ∙ ap (λ l. cond (eqb a.node.value n.value) 1 0 + l) (off-load as' more off)
      ∙ sym (sum_by-cons (λ (a : Seat). cond (eqb a.node.value n.value) 1 0) a as')

-- ---- beside planned homes

module _ (nodes : List NodeInfo) (st : State) (new : List Held) (s : StripeNo) (f : Fragment) (mine : All (λ h. is_beside s f h ≡ true) new) where
  -- a node that no seat of the stripe bars has none of its planned homes
  clear-off : (x : NodeInfo) → node_at nodes x.number ≡ Some x → (hs : List Held) → All (λ h. is_beside s f h ≡ true) hs → list_any (bars nodes (with_homes st new) s f x) hs ≡ false
      → All (λ h. eqb h.seat.node.value x.number.value ≡ false) hs
  clear-off x found [] beside clear = All-nil (λ (h : Held). eqb h.seat.node.value x.number.value ≡ false)
  clear-off x found (h ∷ hs) beside clear =
      let parts = or_parts (bars nodes (with_homes st new) s f x h) (list_any (bars nodes (with_homes st new) s f x) hs) clear in
      All-cons (λ (h : Held). eqb h.seat.node.value x.number.value ≡ false) h hs (elim (cases_Bool (eqb h.seat.node.value x.number.value)) [
        | inr other ↦ other
        | inl same ↦ absurd (
            let node : h.seat.node ≡ x.number = ap (λ (v : ℕ). record { value = v }) (eqb-true _ _ same) in
            let here : node_at nodes h.seat.node ≡ Some x = ap (node_at nodes) node ∙ found in
            let hit : true ≡ false = rw (All-head (λ h. is_beside s f h ≡ true) h hs beside, here, eq-eqb x.fault.value x.fault.value refl) at parts.0 in cc)
      ]) (clear-off x found hs (All-tail (λ h. is_beside s f h ≡ true) h hs beside) parts.1)

  -- the slots that are taken, and the loads, are those of the state with the planned homes behind
  taken-new : is_taken (taken_seats (with_homes st new)) ≡ is_taken (taken_seats st ++ map (λ (h : Held). h.seat) new)
  taken-new = taken-same (taken_seats (with_homes st new)) (taken_seats st ++ planned)
      (λ b here. elim (taken-cases (with_homes st new) b here) [
        | inr (l, at, e) ↦ subst (Contains (taken_seats st ++ planned)) e (Contains-append_left (taken_seats st) planned l.target (target-seat st l at))
        | inl (h, at, e) ↦ subst (Contains (taken_seats st ++ planned)) e (elim (Contains-append_cases st.homes new h at) [
          | inl old ↦ Contains-append_left (taken_seats st) planned h.seat (home-seat st h old)
          | inr more ↦ Contains-append_right (taken_seats st) planned h.seat (map-member (λ (h : Held). h.seat) new h more)
        ])
      ])
      (λ b here. elim (Contains-append_cases (taken_seats st) planned b here) [
        | inl old ↦ elim (taken-cases st b old) [
          | inl (h, at, e) ↦ subst (Contains (taken_seats (with_homes st new))) e (home-seat (with_homes st new) h (Contains-append_left st.homes new h at))
          | inr (l, at, e) ↦ subst (Contains (taken_seats (with_homes st new))) e (target-seat (with_homes st new) l at)
        ]
        | inr more ↦
            let m = member-map (λ (h : Held). h.seat) new b more in
            subst (Contains (taken_seats (with_homes st new))) m.2 (home-seat (with_homes st new) m.0 (Contains-append_right st.homes new m.0 m.1))
      ])
    where
      planned : List Seat
      planned = map (λ (h : Held). h.seat) new

  load-new : (n : NodeNo) → load_of (taken_seats (with_homes st new)) n ≡ load_of (taken_seats st ++ map (λ (h : Held). h.seat) new) n
  load-new n =
      let own = load-parts st n in
      let all = load-parts (with_homes st new) n in
      let homes = ap (λ (seats : List Seat). load_of seats n) (map-append (λ (h : Held). h.seat) st.homes new)
      ∙ sum_by-append (λ (a : Seat). cond (eqb a.node.value n.value) 1 0) (map (λ (h : Held). h.seat) st.homes) (map (λ (h : Held). h.seat) new) in
      let behind = sum_by-append (λ (a : Seat). cond (eqb a.node.value n.value) 1 0) (taken_seats st) (map (λ (h : Held). h.seat) new) in
      omega (arith, own, all, homes, behind)

  clear-seats : (x : NodeInfo) → node_at nodes x.number ≡ Some x → list_any (bars nodes (with_homes st new) s f x) (seats_of (with_homes st new)) ≡ false
      → All (λ a. eqb a.node.value x.number.value ≡ false) (map (λ (h : Held). h.seat) new)
  clear-seats x found clear =
      let test = bars nodes (with_homes st new) s f x in
      let homes = (or_parts _ _ (sym (list_any-append test (st.homes ++ new) (map held_by st.leases)) ∙ clear)).0 in
      let parts = or_parts _ _ (sym (list_any-append test st.homes new) ∙ homes) in
      All-map (λ (a : Seat). eqb a.node.value x.number.value ≡ false) (λ (h : Held). h.seat) new (clear-off x found new mine parts.1)

  -- so its slots and its load are those without them
  clear-taken : (x : NodeInfo) → node_at nodes x.number ≡ Some x → list_any (bars nodes (with_homes st new) s f x) (seats_of (with_homes st new)) ≡ false
      → is_taken (taken_seats st) x.number ≡ is_taken (taken_seats (with_homes st new)) x.number
  clear-taken x found clear =
      sym (ap (λ (t : NodeNo → ℕ → Bool). t x.number) taken-new ∙ off-taken x.number (taken_seats st) (map (λ (h : Held). h.seat) new) (clear-seats x found clear))

  clear-load : (x : NodeInfo) → node_at nodes x.number ≡ Some x → list_any (bars nodes (with_homes st new) s f x) (seats_of (with_homes st new)) ≡ false
      → load_of (taken_seats st) x.number ≡ load_of (taken_seats (with_homes st new)) x.number
  clear-load x found clear =
      sym (load-new x.number ∙ off-load x.number (taken_seats st) (map (λ (h : Held). h.seat) new) (clear-seats x found clear))

  may-fits : (x : NodeInfo) → node_at nodes x.number ≡ Some x → (b : Bool) → list_any (bars nodes (with_homes st new) s f x) (seats_of (with_homes st new)) ≡ b
      → (is_eligible st x && not b) ≡ (is_eligible (with_homes st new) x && not b)
  may-fits x found true e = and_right (is_eligible st x) false refl ∙ sym (and_right (is_eligible (with_homes st new) x) false refl)
  may-fits x found false e = ap (λ (t : ℕ → Bool). (takes_seats st x && is_some (first_slot t 0 x.slots)) && true) (clear-taken x found e)

  module _ (known : AreNodes nodes) (single : AllPairs (λ a b. a ≢ b) (taken_seats st)) (standing : All (HasSlot nodes) (taken_seats st)) where
    all-found : All (λ x. node_at nodes x.number ≡ Some x) nodes
    all-found = All-members (λ x. node_at nodes x.number ≡ Some x) nodes (node_at-member nodes known)

    may_take-planned : filter (may_take (table_of nodes st) (bars_of nodes (with_homes st new) s f)) nodes ≡ filter (fits nodes (with_homes st new) s f) nodes
    may_take-planned = filter-agree (may_take (table_of nodes st) (bars_of nodes (with_homes st new) s f)) (fits nodes (with_homes st new) s f) nodes
        (All-weaker (λ x. node_at nodes x.number ≡ Some x) (λ x. may_take (table_of nodes st) (bars_of nodes (with_homes st new) s f) x ≡ fits nodes (with_homes st new) s f x)
        (λ x found. may_take-eligible nodes st (bars_of nodes (with_homes st new) s f) x found ∙ ap (λ b. is_eligible st x && not b) (bars-domains nodes (with_homes st new) s f x (seats_of (with_homes st new)))
        ∙ may-fits x found (list_any (bars nodes (with_homes st new) s f x) (seats_of (with_homes st new))) refl) nodes all-found)

    clear-fits : (x : NodeInfo) → fits nodes (with_homes st new) s f x ≡ true → list_any (bars nodes (with_homes st new) s f x) (seats_of (with_homes st new)) ≡ false
    clear-fits x e = not-true _ (and_parts (is_eligible (with_homes st new) x) (not (list_any (bars nodes (with_homes st new) s f x) (seats_of (with_homes st new)))) e).1

    count-load : All (λ x. count_by (is_taken (taken_seats st) x.number) (range_with_len 0 x.slots) ≡ load_of (taken_seats (with_homes st new)) x.number) (filter (fits nodes (with_homes st new) s f) nodes)
    count-load = All-members (λ x. count_by (is_taken (taken_seats st) x.number) (range_with_len 0 x.slots) ≡ load_of (taken_seats (with_homes st new)) x.number) (filter (fits nodes (with_homes st new) s f) nodes)
        (λ x here. let m = filter-member (fits nodes (with_homes st new) s f) nodes x here in
        let found = node_at-member nodes known x m.0 in
        load-seats nodes (taken_seats st) x found single standing ∙ clear-load x found (clear-fits x m.1))

    -- Over the table without the planned homes, but with their domains barred, the next node is the one that the rule chooses beside them.
    pub next-planned : next_node (table_of nodes st) (bars_of nodes (with_homes st new) s f) ≡ chosen_node nodes (with_homes st new) s f
    next-planned =
        ap (λ xs. least (is_chosen_before (table_of nodes st)) xs) may_take-planned
        ∙ least-agree (is_chosen_before (table_of nodes st)) (is_preferred (taken_seats (with_homes st new)))
        (λ x. count_by (is_taken (taken_seats st) x.number) (range_with_len 0 x.slots) ≡ load_of (taken_seats (with_homes st new)) x.number)
        (λ x y p q. rw (p, q) refl) (filter (fits nodes (with_homes st new) s f) nodes) count-load

    -- the seat of the node that the rule chooses
    seat-planned : (o : Option NodeInfo) → chosen_node nodes (with_homes st new) s f ≡ o
        → option_and_then (λ n. option_map (seat_on n) (least_free_at (table_of nodes st) n)) (option_map (λ n. n.number) o) ≡ option_and_then (free_seat (taken_seats (with_homes st new))) o
    seat-planned None e = refl
    seat-planned (Some x) e =
        let m = filter-member (fits nodes (with_homes st new) s f) nodes x (least-listed (is_preferred (taken_seats (with_homes st new))) x (filter (fits nodes (with_homes st new) s f) nodes) e) in
        let found = node_at-member nodes known x m.0 in
        let slots = clear-taken x found (clear-fits x m.1) in
        ap (λ o. option_map (seat_on x.number) (option_and_then (least_free (table_of nodes st)) o)) found
        ∙ ap (λ (t : ℕ → Bool). option_map (seat_on x.number) (first_slot t 0 x.slots)) slots

    -- And its least free slot in that table is the chosen one.
    pub planned-chosen : next_seat (table_of nodes st) (bars_of nodes (with_homes st new) s f) ≡ chosen nodes (with_homes st new) s f
    unfolding chosen
    planned-chosen =
        ap (λ (o : Option NodeInfo). option_and_then (λ n. option_map (seat_on n) (least_free_at (table_of nodes st) n)) (option_map (λ n. n.number) o)) next-planned
        ∙ seat-planned (chosen_node nodes (with_homes st new) s f) refl

-- ---- with no planned homes

no_more : (st : State) → with_homes st [] ≡ st
no_more st = ap (λ homes. record st { homes = homes }) (append-nil st.homes)

-- The seat that the table gives, where the stripes are seated, is the one that the rule chooses.
pub table-chosen : (nodes : List NodeInfo) (st : State) (s : StripeNo) (f : Fragment) → AreNodes nodes → AreSeated nodes st → next_seat (table_of nodes st) (bars_of nodes st s f) ≡ chosen nodes st s f
table-chosen nodes st s f known seated =
    subst (λ now. next_seat (table_of nodes st) (bars_of nodes now s f) ≡ chosen nodes now s f) (no_more st)
    (planned-chosen nodes st [] s f (All-nil (λ h. is_beside s f h ≡ true)) known seated.single (standing-slots nodes st (taken_seats st) seated.standing))

-- a chosen seat is the first free one of its node
pub chosen-first_free : (nodes : List NodeInfo) (st : State) (s : StripeNo) (f : Fragment) (seat : Seat) → AreNodes nodes → chosen nodes st s f ≡ Some seat
    → least_free_at (table_of nodes st) seat.node ≡ Some seat.slot
chosen-first_free nodes st s f seat known e =
    let choice = chosen-choice nodes st s f seat known e in
    ap (least_free_at (table_of nodes st)) choice.on ∙ ap (option_and_then (least_free (table_of nodes st))) (node_at-member nodes known choice.node choice.fitting.known)
    ∙ choice-slot nodes st s f seat choice

-- Over the table of a state, with the domains barred of the seats of a new stripe's other fragments, those of planned homes among them, the seat is the one that is chosen beside these.
pub beside-chosen : (nodes : List NodeInfo) (st : State) (code : Code) (new beside : List Held) (s : StripeNo) (f : Fragment) → AreNodes nodes → AreSeated nodes st → All (λ h. is_beside s f h ≡ true) new
    → ((h : Held) → is_beside s f h ≡ true → Contains beside h ↔ Contains (seats_of (with_homes st new)) h)
    → next_seat (table_of nodes st) (bars_in nodes code s f beside) ≡ chosen nodes (with_homes (with_stripe st code s) new) s f
beside-chosen nodes st code new beside s f known good mine same =
    let seats = seats_of (with_homes st new) in
    ap (next_seat (table_of nodes st)) (bars_in-same nodes code s f beside seats same ∙ ap (λ (c : Code). bars_in nodes c s f seats) (sym (code-own st code s)))
    ∙ planned-chosen nodes (with_stripe st code s) new s f mine known good.single (standing-slots nodes st (taken_seats st) good.standing)
