-- Nodes with distinct numbers, and the slots and loads of one node.
use Rattle.std.proofs.Common.{[], ◌≡◌, ◌≢◌, ℕ, zero, suc, ◌+◌, ◌<◌, ◌≤◌, Bool, true, false, ◌&&◌, nat_eq, eqb, List, ◌∷◌, Some, None, arith, refl, sym, ap, ap₂, ◌∙◌, subst, inl, inr}
use Rattle.std.specs.List.{AllPairs, Contains}
use Rattle.std.proofs.lemmas.Bool.{cases_Bool, cases_eq, eqb-true, eq-eqb, ne_eqb, and_parts}
use Rattle.std.proofs.lemmas.Option.{same_Some}
use Rattle.std.proofs.lemmas.List.Elements.{All-contains}
use Rattle.lrc_code.specs.declared.numbers.NodeNo.{NodeNo}
use Rattle.lrc_topology.specs.declared.NodeInfo.{NodeInfo}
use Rattle.lrc_topology.specs.declared.seat.Seat.{Seat}
use Rattle.lrc_topology.specs.Nodes.{AreNodes, node_at}
use Rattle.lrc_topology.specs.Seats.{is_taken, first_slot}
use Rattle.lrc_rules.proofs.MemberLemmas.{Contains-cases, not-Contains-nil, list_any-member, member-list_any, find-member, AllPairs-head, AllPairs-tail}

-- each node is found by its number
node_at-found : (nodes : List NodeInfo) → AllPairs (λ m n. m.number.value ≢ n.number.value) nodes → (n : NodeInfo) → Contains nodes n → node_at nodes n.number ≡ Some n
node_at-found [] apart n h = absurd (not-Contains-nil n h)
node_at-found (x ∷ xs) apart n h = elim (Contains-cases x n xs h) [
  | inl same ↦ subst (λ y. node_at (x ∷ xs) y.number ≡ Some y) same (rw (eq-eqb x.number.value x.number.value refl) refl)
  | inr more ↦
      let other = All-contains (λ (m : NodeInfo). x.number.value ≢ m.number.value) xs n (AllPairs-head (λ (m n : NodeInfo). m.number.value ≢ n.number.value) x xs apart) more in
      rw (ne_eqb n.number.value x.number.value (λ e. other (sym e))) (node_at-found xs (AllPairs-tail (λ (m n : NodeInfo). m.number.value ≢ n.number.value) x xs apart) n more)
]

pub node_at-member : (nodes : List NodeInfo) → AreNodes nodes → (n : NodeInfo) → Contains nodes n → node_at nodes n.number ≡ Some n
node_at-member nodes known n h = node_at-found nodes known.distinct n h

-- the node that is found by a number is in the list and has the number
pub member-node_at : (nodes : List NodeInfo) (number : NodeNo) (n : NodeInfo) → node_at nodes number ≡ Some n → Contains nodes n × (number ≡ n.number)
member-node_at nodes number n e =
    let m = find-member (λ (x : NodeInfo). nat_eq number.value x.number.value) nodes n e in
    (m.0, ap (λ (v : ℕ). record { value = v }) (eqb-true number.value n.number.value m.1))

-- nodes with the same number are equal
pub same_node : (nodes : List NodeInfo) → AreNodes nodes → (n m : NodeInfo) → Contains nodes n → Contains nodes m → n.number.value ≡ m.number.value → n ≡ m
same_node nodes known n m here there same =
    let number : n.number ≡ m.number = ap (λ (v : ℕ). record { value = v }) same in
    same_Some n m (sym (node_at-member nodes known n here) ∙ (ap (node_at nodes) number ∙ node_at-member nodes known m there))

-- ---- slots

abbrev pub seat_on : NodeNo → ℕ → Seat
seat_on node slot = record { node = node; slot = slot }

-- a slot is taken exactly if its seat is among the taken seats
pub taken-member : (seats : List Seat) (n : NodeNo) (slot : ℕ) → is_taken seats n slot ≡ true → Contains seats (seat_on n slot)
taken-member seats n slot e =
    let m = member-list_any (λ (seat : Seat). nat_eq seat.node.value n.value && nat_eq seat.slot slot) seats e in
    let parts = and_parts (eqb m.0.node.value n.value) (eqb m.0.slot slot) m.2 in
    let same : m.0 ≡ seat_on n slot = ap₂ (λ (v k : ℕ). seat_on (record { value = v }) k) (eqb-true _ _ parts.0) (eqb-true _ _ parts.1) in
    subst (Contains seats) same m.1

pub member-taken : (seats : List Seat) (n : NodeNo) (slot : ℕ) → Contains seats (seat_on n slot) → is_taken seats n slot ≡ true
member-taken seats n slot h =
    list_any-member (λ (seat : Seat). nat_eq seat.node.value n.value && nat_eq seat.slot slot) seats (seat_on n slot) h (rw (eq-eqb n.value n.value refl, eq-eqb slot slot refl) refl)

-- the slot that a search for a free slot finds, and the ones that it skips
pub first_slot-found : (taken : ℕ → Bool) (slot left k : ℕ) → first_slot taken slot left ≡ Some k
    → (slot ≤ k) × (k < slot + left) × (taken k ≡ false) × ((j : ℕ) → slot ≤ j → j < k → taken j ≡ true)
first_slot-found taken slot zero k e = absurd (cc)
first_slot-found taken slot (suc left) k e = elim (cases_Bool (taken slot)) [
  | inl hit ↦
      let f : first_slot taken (slot + 1) left ≡ Some k = rw hit at e in
      let h = first_slot-found taken (slot + 1) left k f in (
        omega (arith, h.0),
        omega (arith, h.1),
        h.2,
        λ j from below. elim (cases_eq slot j) [
          | inl same ↦ rw (← same) hit
          | inr other ↦ h.3 j (omega (arith, from, other)) below
        ],
      )
  | inr miss ↦
      let f : Some slot ≡ Some k = rw miss at e in
      let same = same_Some slot k f in
      (omega (arith, same), omega (arith, same), rw (← same) miss, λ j from below. absurd (omega (arith, from, below, same)))
]

pub first_slot-none : (taken : ℕ → Bool) (slot left : ℕ) → first_slot taken slot left ≡ None → (j : ℕ) → slot ≤ j → j < slot + left → taken j ≡ true
first_slot-none taken slot zero e j from below = absurd (omega (arith, from, below))
first_slot-none taken slot (suc left) e j from below = elim (cases_Bool (taken slot)) [
  | inl hit ↦
      let f : first_slot taken (slot + 1) left ≡ None = rw hit at e in
      elim (cases_eq slot j) [
        | inl same ↦ rw (← same) hit
        | inr other ↦ first_slot-none taken (slot + 1) left f j (omega (arith, from, other)) (omega (arith, below))
      ]
  | inr miss ↦ absurd (let f : Some slot ≡ None = rw miss at e in cc)
]
