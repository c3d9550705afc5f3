-- What the rows of a table mean, and what a write to one row changes.
use Rattle.std.proofs.Common.{◌≡◌, ℕ, ◌<◌, ◌≤◌, Bool, true, false, cond, eqb, List, [], ◌∷◌, ◌++◌, map, length, get_or, set, Option, Some, None, IsSome, option_map, refl, sym, ap, ◌∙◌, inl, inr}
use Rattle.std.proofs.Math.Path.{fun_ext}
use Rattle.std.proofs.Math.Seq.{map-set_same}
use Rattle.std.proofs.lemmas.Bool.{cases_Bool, cases_lt, cases_eq, eqb-true, eq-eqb, ne_eqb, lt-ltb, le-ltb}
use Rattle.std.proofs.lemmas.List.{append-nil, get_or_past}
use Rattle.std.proofs.lemmas.List.Folds.{find_at, find-set, find_past}
use Rattle.std.proofs.lemmas.Option.{same_Some, slice_get_within, get_or_from_slice_get, slice_get_read, slice_get_past}
use Rattle.std.specs.List.{position_or_len, count_by, range_with_len, AllByRecursion}
use Rattle.std.specs.Option.{option_map_or}
use Rattle.lrc_code.specs.declared.numbers.NodeNo.{NodeNo}
use Rattle.lrc_topology.specs.declared.NodeInfo.{NodeInfo}
use Rattle.lrc_topology.specs.Nodes.{node_at, IsInRange}
use Rattle.lrc_topology.specs.Seats.{first_slot}
use Rattle.lrc_slots.specs.Slots.{Slots, all_free, least_free, least_free_at, taken_count, load_at, with_taken, with_free, with_eligible}
use Rattle.lrc_slots.specs.Tables.{Row, Table, is_of, row_at, is_marked, slots_of}
use Rattle.lrc_slots.specs.Rows.{position_of, fresh_row, alone}
use Rattle.lrc_code.proofs.NumbersLemmas.{equal_nodes}
use Rattle.lrc_slots.proofs.MarkLemmas.{get_or-set_true, or-false, and-true, get_or-set_false, get_or-replicate_same}

same_slots : (t u : Slots) → t.nodes ≡ u.nodes → t.eligible ≡ u.eligible → t.taken ≡ u.taken → t ≡ u
same_slots t u nodes eligible taken = λ i. record { nodes = nodes i; eligible = eligible i; taken = taken i }

pub slots_of-nodes : (rows : Table) → (slots_of rows).nodes ≡ map (λ r. r.node) rows
unfolding slots_of
slots_of-nodes rows = refl

-- ---- finding a row

-- the nodes have a node exactly if the rows have its row
pub node_at-rows : (rows : Table) (n : NodeNo) → node_at (map (λ r. r.node) rows) n ≡ option_map (λ r. r.node) (row_at rows n)
node_at-rows [] n = refl
node_at-rows (r ∷ rows) n = elim (cases_Bool (is_of n r)) [
  | inl hit ↦ rw hit refl
  | inr miss ↦ rw miss (node_at-rows rows n)
]

-- a row that is found is at the position of its node
pub position_of-row : (rows : Table) (n : NodeNo) (r : Row) → row_at rows n ≡ Some r → position_of rows n ≡ Some (position_or_len (is_of n) rows)
position_of-row rows n r found =
    let within = slice_get_within rows (position_or_len (is_of n) rows) r (sym (find_at (is_of n) rows) ∙ found) in
    rw (lt-ltb _ _ within) refl

pub row-position_of : (rows : Table) (n : NodeNo) (i : ℕ) → position_of rows n ≡ Some i → (i ≡ position_or_len (is_of n) rows) × (i < length rows)
row-position_of rows n i is_at = elim (cases_lt (position_or_len (is_of n) rows) (length rows)) [
  | inl within ↦
      let same : position_or_len (is_of n) rows ≡ i = same_Some _ _ (rw (lt-ltb _ _ within) at is_at) in
      (sym same, rw (← same) within)
  | inr past ↦ absurd (let none : None ≡ Some i = rw (le-ltb _ _ past) at is_at in cc)
]

-- the row at the position of a node is the node's
pub row_at-position : (rows : Table) (n : NodeNo) (i : ℕ) (r : Row) → position_of rows n ≡ Some i → r ≡ get_or rows i r → row_at rows n ≡ Some r
row_at-position rows n i r is_at here =
    let at_i = row-position_of rows n i is_at in
    find_at (is_of n) rows ∙ rw (← at_i.0) (slice_get_read rows (length rows) i r refl at_i.1 here)

-- a row that is found by a number belongs to the node with that number
pub row-number : (rows : Table) (n : NodeNo) (r : Row) → row_at rows n ≡ Some r → n ≡ r.node.number
row-number [] n r found = absurd (cc)
row-number (x ∷ xs) n r found = elim (cases_Bool (is_of n x)) [
  | inl hit ↦
      let same : x ≡ r = same_Some _ _ (rw hit at found) in
      equal_nodes n r.node.number (rw (← same) (eqb-true _ _ hit))
  | inr miss ↦ row-number xs n r (rw miss at found)
]

-- a node without a position has no row
pub row_at-absent : (rows : Table) (n : NodeNo) → position_of rows n ≡ None → row_at rows n ≡ None
row_at-absent rows n none = elim (cases_lt (position_or_len (is_of n) rows) (length rows)) [
  | inl within ↦ absurd (let some : Some (position_or_len (is_of n) rows) ≡ None = rw (lt-ltb _ _ within) at none in cc)
  | inr past ↦ find_at (is_of n) rows ∙ slice_get_past rows _ past
]

-- ---- a write to one row

module _ (rows : Table) (n : NodeNo) (r : Row) (i : ℕ) (found : row_at rows n ≡ Some r) (is_at : position_of rows n ≡ Some i) where
  pub row-here : (d : Row) → get_or rows i d ≡ r
  row-here d = rw (row-position_of rows n i is_at).0 (get_or_from_slice_get rows _ r d (sym (find_at (is_of n) rows) ∙ found))

  -- the rows that are found after one is replaced by another of the same node
  pub row_at-set : (y : Row) → y.node ≡ r.node → (m : NodeNo)
      → row_at (set rows i y) m ≡ cond (eqb n.value m.value) (Some y) (row_at rows m)
  row_at-set y stays m =
      let number : y.node.number.value ≡ n.value = ap (λ (x : NodeInfo). x.number.value) stays ∙ ap (λ (m : NodeNo). m.value)
      (sym (row-number rows n r found)) in
      let at_i = row-position_of rows n i is_at in
      elim (cases_eq n.value m.value) [
        | inl e ↦ rw (eq-eqb _ _ e, ← equal_nodes n m e) (find-set (is_of n) rows i y at_i.0 at_i.1 (eq-eqb _ _ (sym number)))
        | inr other ↦
            rw (ne_eqb _ _ other)
            (find_past (is_of m) rows i y r
            (rw (row-here r) (ne_eqb _ _ (λ e. other
            (sym (e ∙ ap (λ (x : NodeNo). x.value) (sym (row-number rows n r found))))))) (ne_eqb _ _ (λ e. other (sym (e ∙ number)))))
      ]

  pub nodes-set : (y : Row) → y.node ≡ r.node → map (λ x. x.node) (set rows i y) ≡ map (λ x. x.node) rows
  nodes-set y stays = map-set_same (λ (x : Row). x.node) rows i y r (rw (row-here r) stays)

  eligible-same : (y : Row) → y.node ≡ r.node → y.eligible ≡ r.eligible → (slots_of (set rows i y)).eligible ≡ (slots_of rows).eligible
  unfolding slots_of
  eligible-same y stays same = fun_ext (λ m. rw (row_at-set y stays m) (elim (cases_eq n.value m.value) [
    | inl e ↦ rw (eq-eqb _ _ e, ← equal_nodes n m e, found) same
    | inr other ↦ rw (ne_eqb _ _ other) refl
  ]))

  taken-same : (y : Row) → y.node ≡ r.node → y.taken ≡ r.taken → (slots_of (set rows i y)).taken ≡ (slots_of rows).taken
  unfolding slots_of
  taken-same y stays same = fun_ext (λ m. fun_ext (λ k. rw (row_at-set y stays m) (elim (cases_eq n.value m.value) [
    | inl e ↦ rw (eq-eqb _ _ e, ← equal_nodes n m e, found) (ap (λ xs. get_or xs k false) same)
    | inr other ↦ rw (ne_eqb _ _ other) refl
  ])))

  -- a slot is taken
  pub slots_of-taken : (slot : ℕ) → slot < length r.taken
      → slots_of (set rows i (record r { taken = set r.taken slot true })) ≡ with_taken (slots_of rows) n (Some slot)
  unfolding slots_of
  slots_of-taken slot within =
      let y : Row = record r { taken = set r.taken slot true } in
      same_slots _ _ (nodes-set y refl) (eligible-same y refl refl)
      (fun_ext (λ m. fun_ext (λ k. rw (row_at-set y refl m) (elim (cases_eq n.value m.value) [
        | inl e ↦ rw (eq-eqb _ _ e, ← equal_nodes n m e, found) (get_or-set_true r.taken slot k within)
        | inr other ↦ rw (ne_eqb _ _ other) (sym (or-false _))
      ]))))

  -- a slot is freed
  pub slots_of-free : (slot : ℕ) → slot < length r.taken
      → slots_of (set rows i (record r { taken = set r.taken slot false })) ≡ with_free (slots_of rows) n slot
  unfolding slots_of
  slots_of-free slot within =
      let y : Row = record r { taken = set r.taken slot false } in
      same_slots _ _ (nodes-set y refl) (eligible-same y refl refl)
      (fun_ext (λ m. fun_ext (λ k. rw (row_at-set y refl m) (elim (cases_eq n.value m.value) [
        | inl e ↦ rw (eq-eqb _ _ e, ← equal_nodes n m e, found) (get_or-set_false r.taken slot k within)
        | inr other ↦ rw (ne_eqb _ _ other) (sym (and-true _))
      ]))))

  -- the node is set eligible or not
  pub slots_of-eligible : (b : Bool) → slots_of (set rows i (record r { eligible = b })) ≡ with_eligible (slots_of rows) n b
  unfolding slots_of
  slots_of-eligible b =
      let y : Row = record r { eligible = b } in
      same_slots _ _ (nodes-set y refl) (fun_ext (λ m. rw (row_at-set y refl m) (elim (cases_eq n.value m.value) [
        | inl e ↦ rw (eq-eqb _ _ e) refl
        | inr other ↦ rw (ne_eqb _ _ other) refl
      ]))) (taken-same y refl refl)

-- ---- what is known of a node

some-row : (o : Option Row) → IsSome (option_map (λ r. r.node) o) → (r : Row) × (o ≡ Some r)
some-row (Some r) known = (r, refl)
some-row None known = absurd (cc)

-- a node of the table has a row
pub known-row : (rows : Table) (n : NodeNo) → IsSome (node_at (slots_of rows).nodes n) → (r : Row) × (row_at rows n ≡ Some r)
unfolding slots_of
known-row rows n known = some-row (row_at rows n) (rw (← node_at-rows rows n) known)

known-row_at : (o : Option Row) (k : ℕ) → option_map_or (λ r. is_marked r k) o false ≡ true → IsSome (option_map (λ r. r.node) o)
known-row_at (Some r) k hit = refl
known-row_at None k hit = absurd (cc)

-- the node of a taken slot is in the table
pub known-taken : (rows : Table) (n : NodeNo) (k : ℕ) → (slots_of rows).taken n k ≡ true → IsSome (node_at (slots_of rows).nodes n)
unfolding slots_of
known-taken rows n k hit = rw (node_at-rows rows n) (known-row_at (row_at rows n) k hit)

-- a row alone has the marks that the table shows for its node
pub taken-alone : (rows : Table) (n : NodeNo) (r : Row) → row_at rows n ≡ Some r → (slots_of rows).taken n ≡ is_marked r
unfolding slots_of
taken-alone rows n r found = ap (λ (o : Option Row). λ k. option_map_or (λ x. is_marked x k) o false) found

-- a taken slot is one of the row
pub taken-within : (rows : Table) (n : NodeNo) (k : ℕ) (r : Row) → row_at rows n ≡ Some r → (slots_of rows).taken n k ≡ true
    → k < length r.taken
taken-within rows n k r found hit = elim (cases_lt k (length r.taken)) [
  | inl within ↦ within
  | inr past ↦ absurd (let miss : false ≡ true = sym (get_or_past r.taken k false past)
      ∙ (ap (λ (taken : ℕ → Bool). taken k) (sym (taken-alone rows n r found)) ∙ hit) in cc)
]

-- a node without a row has no taken slot
pub taken-absent : (rows : Table) (n : NodeNo) (k : ℕ) → row_at rows n ≡ None → (slots_of rows).taken n k ≡ false
unfolding slots_of
taken-absent rows n k none = ap (λ (o : Option Row). option_map_or (λ x. is_marked x k) o false) none

pub eligible-alone : (rows : Table) (n : NodeNo) (r : Row) → row_at rows n ≡ Some r → (slots_of rows).eligible n ≡ r.eligible
unfolding slots_of
eligible-alone rows n r found = ap (λ (o : Option Row). option_map_or (λ x. x.eligible) o true) found

pub node-alone : (rows : Table) (n : NodeNo) (r : Row) → row_at rows n ≡ Some r → node_at (slots_of rows).nodes n ≡ Some r.node
unfolding slots_of
node-alone rows n r found = node_at-rows rows n ∙ ap (option_map (λ x. x.node)) found

-- a number without a row has no node
pub node-absent : (rows : Table) (n : NodeNo) → row_at rows n ≡ None → node_at (slots_of rows).nodes n ≡ None
unfolding slots_of
node-absent rows n none = node_at-rows rows n ∙ ap (option_map (λ x. x.node)) none

pub least_free-alone : (rows : Table) (n : NodeNo) (r : Row) → row_at rows n ≡ Some r
    → least_free_at (slots_of rows) n ≡ least_free (alone r) r.node
least_free-alone rows n r found =
    rw (node-alone rows n r found) (ap (λ (taken : ℕ → Bool). first_slot taken 0 r.node.slots)
    (rw (← row-number rows n r found) (taken-alone rows n r found)))

pub load-alone : (rows : Table) (n : NodeNo) (r : Row) → row_at rows n ≡ Some r → load_at (slots_of rows) n ≡ taken_count (alone r) r.node
load-alone rows n r found =
    rw (node-alone rows n r found) (ap (λ (taken : ℕ → Bool). count_by taken (range_with_len 0 r.node.slots))
    (rw (← row-number rows n r found) (taken-alone rows n r found)))

-- each node has at most 256 slots
pub slots-few : (rows : Table) (n : NodeNo) (r : Row) → AllByRecursion IsInRange (map (λ x. x.node) rows)
    → row_at rows n ≡ Some r → r.node.slots ≤ 256
slots-few [] n r ranges found = absurd (cc)
slots-few (x ∷ xs) n r ranges found = elim (cases_Bool (is_of n x)) [
  | inl hit ↦
      let same : x ≡ r = same_Some _ _ (rw hit at found) in
      rw (← same) ranges.0.4
  | inr miss ↦ slots-few xs n r ranges.1 (rw miss at found)
]

-- ---- a new table

pub nodes-fresh : (nodes : List NodeInfo) → map (λ r. r.node) (map fresh_row nodes) ≡ nodes
nodes-fresh [] = refl
nodes-fresh (x ∷ xs) = ap (λ ys. x ∷ ys) (nodes-fresh xs)

row_at-fresh : (nodes : List NodeInfo) (n : NodeNo) → row_at (map fresh_row nodes) n ≡ option_map fresh_row (node_at nodes n)
row_at-fresh [] n = refl
row_at-fresh (x ∷ xs) n = elim (cases_Bool (eqb n.value x.number.value)) [
  | inl hit ↦ rw hit refl
  | inr miss ↦ rw miss (row_at-fresh xs n)
]

eligible-fresh : (o : Option NodeInfo) → option_map_or (λ r. r.eligible) (option_map fresh_row o) true ≡ true
eligible-fresh None = refl
eligible-fresh (Some x) = refl

taken-fresh : (o : Option NodeInfo) (k : ℕ) → option_map_or (λ r. is_marked r k) (option_map fresh_row o) false ≡ false
taken-fresh None k = refl
taken-fresh (Some x) k = get_or-replicate_same x.slots k false

pub slots_of-fresh : (nodes : List NodeInfo) → slots_of (map fresh_row nodes) ≡ all_free nodes
unfolding slots_of
slots_of-fresh nodes = same_slots _ _ (nodes-fresh nodes)
    (fun_ext (λ n. rw (row_at-fresh nodes n) (eligible-fresh (node_at nodes n))))
    (fun_ext (λ n. fun_ext (λ k. rw (row_at-fresh nodes n) (taken-fresh (node_at nodes n) k))))

-- all nodes have their row
pub fresh-all : (rows : Table) (rest nodes : List NodeInfo) → rows ++ map fresh_row rest ≡ map fresh_row nodes → rest ≡ []
    → rows ≡ map fresh_row nodes
fresh-all rows rest nodes so_far done = sym (append-nil rows) ∙ (rw done at so_far)
