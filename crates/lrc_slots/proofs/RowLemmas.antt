-- One row, stored as marks, and its load.
use Rattle.std.proofs.Common.{◌≡◌, ◌≢◌, ℕ, zero, suc, ◌+◌, ◌<◌, ◌≤◌, Bool, true, false, ◌&&◌, eqb, is_some, cond, zero-add, length-take-le, ◌∷◌, List, length, get_or, set, take, replicate, Option, Some, None, IsSome, arith, refl, sym, ap, ◌∙◌, inl, inr}
use Rattle.std.proofs.Math.ListN.{length-set}
use Rattle.std.proofs.lemmas.Bool.{cases_lt}
use Rattle.std.proofs.Math.Seq.{take-set-lt}
use Rattle.std.proofs.lemmas.List.Sums.{count_by-le-length, sum_by-cons}
use Rattle.std.proofs.lemmas.List.FromFn.{length-range_with_len}
use Rattle.std.proofs.lemmas.List.{get_or-take, get_or-set_same, get_or-set_other, length-replicate}
use Rattle.std.specs.List.{count_by, range_with_len}
use Rattle.lrc_bits.specs.Flags.{FindsAbsent, IsFirstAbsent}
use Rattle.lrc_topology.specs.declared.NodeInfo.{NodeInfo}
use Rattle.lrc_slots.specs.Slots.{least_free, taken_count}
use Rattle.lrc_slots.specs.Tables.{Row, is_marked}
use Rattle.lrc_slots.specs.Rows.{row_of, AreMarks, alone, fresh_row, row_load}
use Rattle.lrc_slots.specs.Indexes.{is_listed}
use Rattle.lrc_slots.proofs.CountLemmas.{first_slot-is, first_slot-all, first_slot-found, first_slot-none, count-one}
use Rattle.lrc_slots.proofs.MarkLemmas.{get_or-replicate_same}

-- how many of the node's slots have a mark
abbrev pub marked_count : NodeInfo → List Bool → ℕ
marked_count node marks = count_by (λ k. get_or (take node.slots marks) k false) (range_with_len 0 node.slots)

-- the list is long enough for the node's slots
pub taken-length : (node : NodeInfo) (marks : List Bool) → AreMarks node marks → length (take node.slots marks) ≡ node.slots
taken-length node marks h = length-take-le node.slots marks (omega (arith, h.few, h.all))

-- the mark of a slot is read from the marks
pub marked-within : (n k : ℕ) (marks : List Bool) → k < n → get_or (take n marks) k false ≡ get_or marks k false
marked-within n k marks within = get_or-take n marks k false within

-- what the search for an absent mark finds
pub least_free-found : (node : NodeInfo) (eligible : Bool) (marks : List Bool) (k : ℕ) → IsFirstAbsent marks k → k < node.slots
    → least_free (alone (row_of node eligible marks)) node ≡ Some k
least_free-found node eligible marks k h within =
    first_slot-is (is_marked (row_of node eligible marks)) 0 node.slots k (omega arith) (omega (arith, within))
    (marked-within node.slots k marks within ∙ h.lacks)
    (λ j low less. marked-within node.slots j marks (omega (arith, less, within)) ∙ h.first j less)

-- an absent mark after the last slot is no free slot
pub least_free-past : (node : NodeInfo) (eligible : Bool) (marks : List Bool) (k : ℕ) → IsFirstAbsent marks k → node.slots ≤ k
    → least_free (alone (row_of node eligible marks)) node ≡ None
least_free-past node eligible marks k h past =
    first_slot-all (is_marked (row_of node eligible marks)) 0 node.slots
    (λ j low less. let within : j < node.slots = omega (arith, less) in marked-within node.slots j marks within ∙ h.first j
    (omega (arith, within, past)))

-- if no mark is absent, no slot is free
pub least_free-none : (node : NodeInfo) (eligible : Bool) (marks : List Bool) → AreMarks node marks
    → ((j : ℕ) → j < length marks → get_or marks j false ≡ true)
    → least_free (alone (row_of node eligible marks)) node ≡ None
least_free-none node eligible marks h all =
    first_slot-all (is_marked (row_of node eligible marks)) 0 node.slots
    (λ j low less. let within : j < node.slots = omega (arith, less) in marked-within node.slots j marks within ∙ all j
    (omega (arith, within, h.few, h.all)))

-- ---- given a free slot

module _ (node : NodeInfo) (eligible : Bool) (marks : List Bool) (h : AreMarks node marks)
    (room : IsSome (least_free (alone (row_of node eligible marks)) node)) where
  -- some mark is absent
  pub absent-found : (o : Option ℕ) → FindsAbsent marks o → IsSome o
  absent-found None all = absurd (let none = rw (least_free-none node eligible marks h all) at room in cc)
  absent-found (Some k) first = refl

  -- and the first absent mark is the lowest free slot
  pub absent-least : (k : ℕ) → IsFirstAbsent marks k → least_free (alone (row_of node eligible marks)) node ≡ Some k
  absent-least k first = elim (cases_lt k node.slots) [
    | inl within ↦ least_free-found node eligible marks k first within
    | inr past ↦ absurd (let none = rw (least_free-past node eligible marks k first past) at room in cc)
  ]

-- ---- writing a mark

-- one mark is written, the others stay
module _ (node : NodeInfo) (marks : List Bool) (k : ℕ) (h : AreMarks node marks) (within : k < node.slots) where
  -- the slot is one of the node
  inside : k < length (take node.slots marks)
  inside = rw (taken-length node marks h) within

  -- the slot reads as it was written
  pub written-here : (b : Bool) → get_or (take node.slots (set marks k b)) k false ≡ b
  written-here b = ap (λ xs. get_or xs k false) (take-set-lt node.slots marks k b within) ∙ get_or-set_same (take node.slots marks) k b false inside

  -- every other slot reads as before
  pub written-other : (b : Bool) (j : ℕ) → j ≢ k → get_or (take node.slots (set marks k b)) j false ≡ get_or (take node.slots marks) j false
  written-other b j other = ap (λ xs. get_or xs j false) (take-set-lt node.slots marks k b within) ∙ get_or-set_other
      (take node.slots marks) k j b false other

  -- there are as many marks as before
  pub marks-written : (b : Bool) → AreMarks node (set marks k b)
  marks-written b = record { few = h.few; all = length-set marks k b ∙ h.all }

  -- a free slot is taken
  pub count-taken : get_or (take node.slots marks) k false ≡ false → marked_count node (set marks k true) ≡ marked_count node marks + 1
  count-taken miss =
      count-one (λ j. get_or (take node.slots marks) j false) (λ j. get_or (take node.slots (set marks k true)) j false) k 0 node.slots
      (omega arith) (omega (arith, within)) miss (written-here true) (written-other true)

  -- a taken slot is freed
  pub count-freed : get_or (take node.slots marks) k false ≡ true → marked_count node marks ≡ marked_count node (set marks k false) + 1
  count-freed hit =
      count-one (λ j. get_or (take node.slots (set marks k false)) j false) (λ j. get_or (take node.slots marks) j false) k 0 node.slots
      (omega arith) (omega (arith, within)) (written-here false) hit (λ j other. sym (written-other false j other))

  -- writing a mark writes the slot of the row
  pub row-written : (eligible b : Bool)
      → row_of node eligible (set marks k b) ≡ record (row_of node eligible marks) { taken = set (take node.slots marks) k b }
  row-written eligible b = ap (λ xs. record { node = node; eligible = eligible; taken = xs }) (take-set-lt node.slots marks k b within)

-- no more slots are taken than there are
pub load-most : (r : Row) → row_load r ≤ r.node.slots
load-most r =
    let most : row_load r ≤ length (range_with_len 0 r.node.slots) = count_by-le-length (is_marked r) (range_with_len 0 r.node.slots) in
    let long = length-range_with_len 0 r.node.slots in
    omega (arith, most, long)

-- ---- a new row

-- the first of many absent marks
front : (n m : ℕ) → n ≤ m → take n (replicate m false) ≡ replicate n false
front zero m few = refl
front (suc n) zero few = absurd (omega (arith, few))
front (suc n) (suc m) few = ap (λ xs. false ∷ xs) (front n m (omega (arith, few)))

-- absent marks make a row with all slots free
pub row-fresh : (node : NodeInfo) → node.slots ≤ 256 → row_of node true (replicate 256 false) ≡ fresh_row node
row-fresh node few = ap (λ xs. record { node = node; eligible = true; taken = xs }) (front node.slots 256 few)

-- a new row has all its marks
pub marks-fresh : (node : NodeInfo) → node.slots ≤ 256 → AreMarks node (replicate 256 false)
marks-fresh node few = record { few = few; all = length-replicate 256 false }

-- if none passes, the count is 0
none_counted : (t : ℕ → Bool) (a n : ℕ) → ((j : ℕ) → t j ≡ false) → count_by t (range_with_len a n) ≡ 0
none_counted t a zero none = refl
none_counted t a (suc n) none = rw (sum_by-cons (λ j. cond (t j) 1 0) a (range_with_len (a + 1) n), none a)
    (zero-add _ ∙ none_counted t (a + 1) n none)

-- none of its slots is taken
pub load-fresh : (node : NodeInfo) → row_load (fresh_row node) ≡ 0
load-fresh node = none_counted (is_marked (fresh_row node)) 0 node.slots (λ j. get_or-replicate_same node.slots j false)

-- ---- the load that a row is listed with

-- if all pass, all are counted
all_counted : (t : ℕ → Bool) (a n : ℕ) → ((j : ℕ) → a ≤ j → j < a + n → t j ≡ true) → count_by t (range_with_len a n) ≡ n
all_counted t a zero all = refl
all_counted t a (suc n) all =
    let rest = all_counted t (a + 1) n (λ j low high. all j (omega (arith, low)) (omega (arith, high))) in
    rw (sum_by-cons (λ j. cond (t j) 1 0) a (range_with_len (a + 1) n), all a (omega arith) (omega arith)) (omega (arith, rest))

module _ (node : NodeInfo) (load : ℕ) (marks : List Bool) (h : AreMarks node marks) (counted : load ≡ marked_count node marks) where
  -- if a slot is free, fewer slots are taken than there are
  room-below : (k : ℕ) → k < node.slots → get_or (take node.slots marks) k false ≡ false → load < node.slots
  room-below k within miss =
      let one = count-taken node marks k h within miss in
      let most : marked_count node (set marks k true) ≤ node.slots = load-most (row_of node true (set marks k true)) in
      omega (arith, most, one, counted)

  -- a row with room has a free slot
  pub room-some : (eligible : Bool) → load < node.slots → is_some (least_free (alone (row_of node eligible marks)) node) ≡ true
  room-some eligible room = go (least_free (alone (row_of node eligible marks)) node) refl where
    go : (o : Option ℕ) → least_free (alone (row_of node eligible marks)) node ≡ o → is_some o ≡ true
    go (Some k) e = refl
    go None e = absurd (
        let all = all_counted (λ k. get_or (take node.slots marks) k false) 0 node.slots
        (λ j low high. first_slot-none (is_marked (row_of node eligible marks)) 0 node.slots e j low high) in
        omega (arith, all, room, counted))

  -- a full row has no free slot
  full-none : (eligible : Bool) → node.slots ≤ load → is_some (least_free (alone (row_of node eligible marks)) node) ≡ false
  full-none eligible full = go (least_free (alone (row_of node eligible marks)) node) refl where
    go : (o : Option ℕ) → least_free (alone (row_of node eligible marks)) node ≡ o → is_some o ≡ false
    go None e = refl
    go (Some k) e = absurd (
        let found = first_slot-found (is_marked (row_of node eligible marks)) 0 node.slots k e in
        let less = room-below k (omega (arith, found.1)) found.2 in
        omega (arith, less, full))

  -- a row with a free slot has room
  pub room-known : (eligible : Bool) → is_some (least_free (alone (row_of node eligible marks)) node) ≡ true → load < node.slots
  room-known eligible some = elim (cases_lt load node.slots) [
    | inl room ↦ room
    | inr full ↦ absurd (let clash : false ≡ true = sym (full-none eligible full) ∙ some in cc)
  ]

  -- and is listed with its load if it is eligible
  pub listed-known : (eligible : Bool) → is_some (least_free (alone (row_of node eligible marks)) node) ≡ true
      → (k : ℕ) → (eligible && eqb load k) ≡ is_listed (row_of node eligible marks) k
  listed-known eligible some k = rw (some, ← counted) (also eligible (eqb load k)) where
    also : (a b : Bool) → (a && b) ≡ (a && true && b)
    also true b = refl
    also false b = refl

  -- an eligible row with room is listed with its load
  pub listed-room : load < node.slots → (k : ℕ) → eqb load k ≡ is_listed (row_of node true marks) k
  listed-room room k = rw (room-some true room, ← counted) refl

  -- a full row is not listed
  pub listed-full : (eligible : Bool) → node.slots ≤ load → (k : ℕ) → false ≡ is_listed (row_of node eligible marks) k
  listed-full eligible full k = rw (full-none eligible full) (off eligible (eqb (taken_count (alone (row_of node eligible marks)) node) k)) where
    off : (a b : Bool) → false ≡ (a && false && b)
    off true b = refl
    off false b = refl
