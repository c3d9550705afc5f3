-- The row that is read at the position of its node, its ordinal, and what a write to it changes.
use Rattle.std.proofs.Common.{◌≡◌, ℕ, ◌<◌, Bool, true, false, cond, eqb, List, length, get_or, map, set, Some, IsSomeAnd, sym, ap, ap₂, ◌∙◌, subst}
use Rattle.std.proofs.lemmas.List.{get_or_default, get_or-map, length-map, map-set}
use Rattle.std.proofs.Math.Seq.{map-set_same}
use Rattle.lrc_code.specs.declared.numbers.NodeNo.{NodeNo}
use Rattle.lrc_topology.specs.declared.NodeInfo.{NodeInfo}
use Rattle.lrc_topology.specs.Nodes.{node_at}
use Rattle.lrc_slots.specs.declared.listing.Listing.{Listing}
use Rattle.lrc_slots.specs.Slots.{least_free, least_free_at, with_taken, with_free, with_eligible}
use Rattle.lrc_slots.specs.Tables.{Row, Table, row_at, is_marked, slots_of}
use Rattle.lrc_slots.specs.Rows.{position_of, alone, row_load}
use Rattle.lrc_slots.specs.Indexes.{listed, is_listing_of, is_listed, AreIndexed}
use Rattle.lrc_slots.proofs.TableLemmas.{row_at-position, row-position_of, least_free-alone, node-alone, taken-alone, taken-within, slots_of-taken, slots_of-free, slots_of-eligible}
use Rattle.lrc_slots.proofs.IndexLemmas.{indexed-set}

-- the position of a row is within the loads
pub load-inside : {rows now : Table} {counts : List ℕ} (i : ℕ) → rows ≡ now → counts ≡ map row_load rows → i < length now → i < length counts
load-inside i view counted within = rw (counted, length-map, view) within

module _ {rows now : Table} (view : rows ≡ now) (n : NodeNo) (i : ℕ) (is_at : position_of now n ≡ Some i)
    (x : Row) (here : x ≡ get_or rows i x) where
  -- the position is that of the node's row
  own : position_of rows n ≡ Some i
  own = rw (← view) at is_at

  -- it is within the rows
  inside : i < length rows
  inside = (row-position_of rows n i own).1

  -- the row is the node's
  found : row_at rows n ≡ Some x
  found = row_at-position rows n i x own here

  -- the lowest free slot of the row is that of the node
  pub least_free-read : least_free_at (slots_of now) n ≡ least_free (alone x) x.node
  least_free-read = rw (← view) (least_free-alone rows n x found)

  -- a slot of the node is one of the row
  pub slot-read : (k : ℕ) → IsSomeAnd (node_at (slots_of now).nodes n) (λ m. k < m.slots) → k < x.node.slots
  slot-read k within =
      subst (λ o. IsSomeAnd o (λ (m : NodeInfo). k < m.slots)) (node-alone rows n x found) (rw (← view) at within)

  -- a free slot of the node is not marked there
  pub free-read : (k : ℕ) → (slots_of now).taken n k ≡ false → is_marked x k ≡ false
  free-read k free =
      let old : (slots_of rows).taken n k ≡ false = rw (← view) at free in
      ap (λ (taken : ℕ → Bool). taken k) (sym (taken-alone rows n x found)) ∙ old

  -- a taken slot of the node is one of the row
  pub taken-low : (k : ℕ) → (slots_of now).taken n k ≡ true → k < length x.taken
  taken-low k hit = taken-within rows n k x found (rw (← view) at hit)

  -- and is marked there
  pub taken-read : (k : ℕ) → (slots_of now).taken n k ≡ true → is_marked x k ≡ true
  taken-read k hit =
      let old : (slots_of rows).taken n k ≡ true = rw (← view) at hit in
      ap (λ (taken : ℕ → Bool). taken k) (sym (taken-alone rows n x found)) ∙ old

  -- a slot is taken
  pub taken-written : (k : ℕ) → k < length x.taken
      → slots_of (set rows i (record x { taken = set x.taken k true })) ≡ with_taken (slots_of now) n (Some k)
  taken-written k within = rw (← view) (slots_of-taken rows n x i found own k within)

  -- a slot is freed
  pub free-written : (k : ℕ) → k < length x.taken
      → slots_of (set rows i (record x { taken = set x.taken k false })) ≡ with_free (slots_of now) n k
  free-written k within = rw (← view) (slots_of-free rows n x i found own k within)

  -- the node is set eligible or not
  pub eligible-written : (b : Bool) → slots_of (set rows i (record x { eligible = b })) ≡ with_eligible (slots_of now) n b
  eligible-written b = rw (← view) (slots_of-eligible rows n x i found own b)

  module _ {numbers : List NodeNo} {ordinals at counts : List ℕ} {loads faults upgrades : List (List Bool)}
      (h : AreIndexed rows numbers ordinals at counts loads faults upgrades) where
    -- the load that was read is that of the row
    pub load-read : (load : ℕ) → load ≡ get_or counts i load → load ≡ row_load x
    load-read load read =
        read ∙ (ap (λ xs. get_or xs i load) h.counted ∙ (get_or-map row_load rows i x load inside ∙ ap row_load (sym here)))

    -- the load of the row is written
    pub load-written : (y : Row) (load : ℕ) → load ≡ row_load y → set counts i load ≡ map row_load (set rows i y)
    load-written y load is = ap₂ (λ xs k. set xs i k) h.counted is ∙ sym (map-set row_load rows i y)

    -- the row keeps its load
    pub load-kept : (y : Row) → row_load y ≡ row_load x → counts ≡ map row_load (set rows i y)
    load-kept y same = h.counted ∙ sym (map-set_same row_load rows i y x (same ∙ ap row_load here))

  module _ {numbers : List NodeNo} {ordinals at counts : List ℕ} {loads faults upgrades : List (List Bool)}
      (h : AreIndexed rows numbers ordinals at counts loads faults upgrades) (ordinal : ℕ) (read : ordinal ≡ get_or ordinals i ordinal) where
    -- the ordinal that was read is that of the row
    ordinal-is : ordinal ≡ get_or ordinals i 0
    ordinal-is = read ∙ get_or_default ordinals i ordinal 0 (rw h.by_ordinal.complete inside)

    -- the ordinal is within the sets
    pub ordinal-low : ordinal < 512
    ordinal-low = rw ordinal-is (h.by_ordinal.low i inside)

    -- the ordinal is listed with the load of the row
    pub ordinal-shown : (before : Listing) → ((k : ℕ) → is_listing_of before k ≡ is_listed x k) → (k : ℕ)
        → listed loads k ordinal ≡ is_listing_of before k
    ordinal-shown before listing k = ap (λ r. listed loads k r) ordinal-is
        ∙ (h.by_load.shown i k x inside ∙ (ap (λ (y : Row). is_listed y k) (sym here) ∙ sym (listing k)))

    -- the row is replaced by one of the same node, and its ordinal is listed with the new load
    pub row-replaced : (y : Row) (anew : List ℕ) (new : List (List Bool)) (after : Listing) → y.node ≡ x.node
        → anew ≡ map row_load (set rows i y)
        → ((k r : ℕ) → listed new k r ≡ cond (eqb ordinal r) (is_listing_of after k) (listed loads k r))
        → ((k : ℕ) → is_listing_of after k ≡ is_listed y k)
        → AreIndexed (set rows i y) numbers ordinals at anew new faults upgrades
    row-replaced y anew new after stays counted moved listing =
        indexed-set h i y x inside (stays ∙ ap (λ (z : Row). z.node) here) anew new counted
        (λ k r. rw (← ordinal-is, ← listing k) (moved k r))
