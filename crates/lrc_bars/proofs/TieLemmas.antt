-- The slot table of a state: its loads, what is barred, and the seat that it gives beside planned homes.
use Rattle.std.proofs.Common.{[], ◌≡◌, ◌≢◌, ℕ, zero, suc, ◌+◌, ◌<◌, ◌≤◌, Bool, true, false, not, cond, ◌&&◌, ◌||◌, nat_eq, eqb, List, ◌∷◌, Option, Some, None, is_some, IsSomeAnd, arith, zero-add, refl, ap, ◌∙◌, subst, inl, inr}
use Rattle.std.specs.List.{All, AllPairs, list_any, count_by, range_with_len}
use Rattle.std.specs.Option.{option_map_or}
use Rattle.std.proofs.lemmas.Bool.{cases_Bool, cases_eq, eqb-true, eq-eqb, ne_eqb, false_from_ne_true}
use Rattle.std.proofs.lemmas.List.Elements.{All-head, All-tail, All-weaker, All-contains}
use Rattle.std.proofs.lemmas.List.Sums.{sum_by-cons}
use Rattle.lrc_code.specs.declared.numbers.StripeNo.{StripeNo}
use Rattle.lrc_code.specs.declared.numbers.NodeNo.{NodeNo}
use Rattle.lrc_code.specs.declared.numbers.Fragment.{Fragment}
use Rattle.lrc_code.specs.Codes.{share_class}
use Rattle.lrc_topology.specs.declared.NodeInfo.{NodeInfo}
use Rattle.lrc_topology.specs.declared.seat.Seat.{Seat}
use Rattle.lrc_topology.specs.declared.seat.Held.{Held}
use Rattle.lrc_topology.specs.Nodes.{node_at}
use Rattle.lrc_topology.specs.Seats.{load_of, is_taken, free_slot}
use Rattle.lrc_slots.specs.Barred.{Barred}
use Rattle.lrc_slots.specs.Next.{may_take}
use Rattle.lrc_terms.specs.declared.mode.Mode.TheVariants.{Gone}
use Rattle.lrc_rules.specs.States.{State, code_of, taken_seats, mode_of, takes_seats, is_eligible}
use Rattle.lrc_rules.specs.Placement.{bars, is_beside}
use Rattle.lrc_rules.specs.Goodness.{IsStanding}
use Rattle.lrc_bars.specs.Ties.{table_of, bars_fault, bars_upgrade, bars_in}
use Rattle.lrc_rules.proofs.MemberLemmas.{AllPairs-head, AllPairs-tail}
use Rattle.lrc_rules.proofs.NodeLemmas.{taken-member, seat_on}

-- ---- loads: the seats on a node are as many as its taken slots

count-past : (t : ℕ → Bool) (k a n : ℕ) → k < a → count_by (λ j. eqb k j || t j) (range_with_len a n) ≡ count_by t (range_with_len a n)
count-past t k a zero low = refl
count-past t k a (suc n) low =
    let more = count-past t k (a + 1) n (omega (arith, low)) in
    rw (sum_by-cons (λ j. cond (eqb k j || t j) 1 0) a (range_with_len (a + 1) n), sum_by-cons (λ j. cond (t j) 1 0) a (range_with_len (a + 1) n), ne_eqb k a (λ e. absurd (omega (arith, e, low)))) (omega (arith, more))

-- one more slot is counted, that was not before
pub count-one : (t : ℕ → Bool) (k a n : ℕ) → a ≤ k → k < a + n → t k ≡ false → count_by (λ j. eqb k j || t j) (range_with_len a n) ≡ 1 + count_by t (range_with_len a n)
count-one t k a zero low high miss = absurd (omega (arith, low, high))
count-one t k a (suc n) low high miss = elim (cases_eq k a) [
  | inl same ↦
      rw (sum_by-cons (λ j. cond (eqb k j || t j) 1 0) a (range_with_len (a + 1) n), sum_by-cons (λ j. cond (t j) 1 0) a (range_with_len (a + 1) n), eq-eqb k a same, ← same, miss, count-past t k (k + 1) n (omega arith), zero-add) refl
  | inr other ↦
      let more = count-one t k (a + 1) n (omega (arith, low, other)) (omega (arith, high)) miss in
      rw (sum_by-cons (λ j. cond (eqb k j || t j) 1 0) a (range_with_len (a + 1) n), sum_by-cons (λ j. cond (t j) 1 0) a (range_with_len (a + 1) n), ne_eqb k a other) (omega (arith, more))
]

count-none : (xs : List ℕ) → count_by (λ k. false) xs ≡ 0
count-none [] = refl
count-none (x ∷ xs) = sum_by-cons (λ (k : ℕ). cond false 1 0) x xs ∙ zero-add _ ∙ count-none xs

-- a seat that is none of these is not taken by them
pub not_taken : (seats : List Seat) (n : NodeNo) (slot : ℕ) → All (λ a. seat_on n slot ≢ a) seats → is_taken seats n slot ≡ false
not_taken seats n slot apart = false_from_ne_true (is_taken seats n slot) (λ e. All-contains (λ a. seat_on n slot ≢ a) seats (seat_on n slot) apart (taken-member seats n slot e) refl)

-- the seat is a slot of a node of the store
abbrev pub HasSlot : List NodeInfo → Seat → Type 0
HasSlot nodes seat = IsSomeAnd (node_at nodes seat.node) (λ n. seat.slot < n.slots)

slot-by : (o : Option NodeInfo) (slot : ℕ) (P : Type 0) → IsSomeAnd o (λ n. (slot < n.slots) × P) → IsSomeAnd o (λ n. slot < n.slots)
slot-by (Some n) slot P standing = standing.0
slot-by None slot P standing = standing

-- standing seats are slots of nodes
pub standing-slots : (nodes : List NodeInfo) (st : State) (seats : List Seat) → All (IsStanding nodes st) seats → All (HasSlot nodes) seats
standing-slots nodes st seats all = All-weaker (IsStanding nodes st) (HasSlot nodes) (λ seat standing. slot-by (node_at nodes seat.node) seat.slot (mode_of st seat.node ≢ Gone) standing) seats all

-- the load that a table counts is the number of seats on the node
pub load-seats : (nodes : List NodeInfo) (seats : List Seat) (x : NodeInfo) → node_at nodes x.number ≡ Some x → AllPairs (λ a b. a ≢ b) seats → All (HasSlot nodes) seats
    → count_by (is_taken seats x.number) (range_with_len 0 x.slots) ≡ load_of seats x.number
load-seats nodes [] x at_x single standing = count-none (range_with_len 0 x.slots)
load-seats nodes (a ∷ as') x at_x single standing =
    let more = load-seats nodes as' x at_x (AllPairs-tail (λ a b. a ≢ b) a as' single) (All-tail (HasSlot nodes) a as' standing) in
    elim (cases_Bool (eqb a.node.value x.number.value)) [
      | inl here ↦
          let node : a.node ≡ x.number = ap (λ (v : ℕ). record { value = v }) (eqb-true _ _ here) in
          let inside : IsSomeAnd (node_at nodes x.number) (λ n. a.slot < n.slots) = subst (λ n. IsSomeAnd (node_at nodes n) (λ m. a.slot < m.slots)) node (All-head (HasSlot nodes) a as' standing) in
          let within : a.slot < x.slots = subst (λ o. IsSomeAnd o (λ (n : NodeInfo). a.slot < n.slots)) at_x inside in
          let alone : is_taken as' x.number a.slot ≡ false = subst (λ n. is_taken as' n a.slot ≡ false) node (not_taken as' a.node a.slot (AllPairs-head (λ a b. a ≢ b) a as' single)) in
          ap (λ (b : Bool). count_by (λ k. (b && eqb a.slot k) || is_taken as' x.number k) (range_with_len 0 x.slots)) here
          ∙ count-one (is_taken as' x.number) a.slot 0 x.slots (omega arith) (omega (arith, within)) alone
          ∙ rw (sum_by-cons (λ (g : Seat). cond (eqb g.node.value x.number.value) 1 0) a as', here, more) refl
      | inr there ↦
          ap (λ (b : Bool). count_by (λ k. (b && eqb a.slot k) || is_taken as' x.number k) (range_with_len 0 x.slots)) there
          ∙ more ∙ rw (sum_by-cons (λ (g : Seat). cond (eqb g.node.value x.number.value) 1 0) a as', there, zero-add) refl
    ]

-- ---- barred domains: a node is in one exactly where a seat bars it

or_four : (a b x y : Bool) → ((a || x) || (b || y)) ≡ ((a || b) || (x || y))
or_four true b x y = refl
or_four false true true y = refl
or_four false true false y = refl
or_four false false x y = refl

bars-parts : (o : Bool) (m : Option NodeInfo) (n : NodeInfo) (same : Bool)
    → ((o && option_map_or (λ m. nat_eq n.fault.value m.fault.value) m false) || (o && option_map_or (λ m. same && nat_eq n.upgrade.value m.upgrade.value) m false))
    ≡ (o && option_map_or (λ m. nat_eq n.fault.value m.fault.value || (same && nat_eq n.upgrade.value m.upgrade.value)) m false)
bars-parts true None n same = refl
bars-parts true (Some m) n same = refl
bars-parts false m n same = refl

pub bars-domains : (nodes : List NodeInfo) (st : State) (s : StripeNo) (f : Fragment) (n : NodeInfo) (seats : List Held)
    → ((bars_in nodes (code_of st s) s f seats).faults n.fault || (bars_in nodes (code_of st s) s f seats).upgrades n.upgrade) ≡ list_any (bars nodes st s f n) seats
bars-domains nodes st s f n [] = refl
bars-domains nodes st s f n (h ∷ hs) =
    or_four (bars_fault nodes s f n.fault h) (bars_upgrade nodes (code_of st s) s f n.upgrade h) _ _
    ∙ rw (bars-domains nodes st s f n hs) (ap (λ b. b || list_any (bars nodes st s f n) hs) (bars-parts (is_beside s f h) (node_at nodes h.seat.node) n (share_class (code_of st s) f h.fragment)))

-- the table's test of a node is whether it is eligible and in no barred domain
pub may_take-eligible : (nodes : List NodeInfo) (st : State) (b : Barred) (n : NodeInfo) → node_at nodes n.number ≡ Some n → may_take (table_of nodes st) b n ≡ (is_eligible st n && not (b.faults n.fault || b.upgrades n.upgrade))
may_take-eligible nodes st b n found =
    ap (λ (o : Option NodeInfo). option_map_or (takes_seats st) o true && is_some (free_slot (taken_seats st) n) && not (b.faults n.fault || b.upgrades n.upgrade)) found
