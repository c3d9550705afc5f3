-- The loads of the nodes, kept apart from the nodes' numbers.
use Rattle.std.proofs.Common.{◌≡◌, ℕ, ◌<◌, ◌≤◌, List, [], ◌∷◌, length, map, get_or, Some, None, arith, refl, sym, ap, ap₂, ◌∙◌, inl, inr}
use Rattle.std.specs.List.{zip, position, position_or_len, slice_get}
use Rattle.std.proofs.Math.Numerals.{one-add}
use Rattle.std.proofs.lemmas.Bool.{cases_Bool, cases_lt, lt-ltb, le-ltb}
use Rattle.std.proofs.lemmas.List.{length-map}
use Rattle.std.proofs.lemmas.Option.{same_Some, slice_get_read, slice_get_past}
use Rattle.lrc_code.specs.declared.numbers.NodeNo.{NodeNo}
use Rattle.lrc_code.specs.Numbers.{same_node}
use Rattle.lrc_topology.specs.declared.NodeInfo.{NodeInfo}
use Rattle.lrc_rules.specs.Boards.{loads_by, load_in}

firsts : (numbers : List NodeNo) (loads : List ℕ) → length numbers ≡ length loads → map (λ row. row.0) (zip numbers loads) ≡ numbers
firsts [] loads same = refl
firsts (n ∷ ns) [] same = absurd (omega (arith, same))
firsts (n ∷ ns) (k ∷ ks) same = ap (λ (xs : List NodeNo). n ∷ xs) (firsts ns ks (omega (arith, same)))

-- rows of these nodes have their numbers
pub numbers-are : (nodes : List NodeInfo) (numbers : List NodeNo) (loads : List ℕ) → length numbers ≡ length loads
    → map (λ row. row.0) (zip numbers loads) ≡ map (λ m. m.number) nodes → numbers ≡ map (λ m. m.number) nodes
numbers-are nodes numbers loads same whole = sym (firsts numbers loads same) ∙ whole

-- there is a load for each number
pub loads-long : (nodes : List NodeInfo) (load : NodeNo → ℕ) (numbers : List NodeNo) (loads : List ℕ)
    → numbers ≡ map (λ m. m.number) nodes → loads ≡ map (λ m. load m.number) nodes → length numbers ≡ length loads
loads-long nodes load numbers loads named counted =
    ap length named ∙ length-map nodes (λ (m : NodeInfo). m.number) ∙ sym (ap length counted ∙ length-map nodes (λ (m : NodeInfo). load m.number))

zipped : (nodes : List NodeInfo) (load : NodeNo → ℕ) → zip (map (λ m. m.number) nodes) (map (λ m. load m.number) nodes) ≡ loads_by nodes load
zipped [] load = refl
zipped (m ∷ ms) load = ap (λ rows. (m.number, load m.number) ∷ rows) (zipped ms load)

-- the numbers and the loads of the nodes are the rows
pub loads-zipped : (nodes : List NodeInfo) (load : NodeNo → ℕ) (numbers : List NodeNo) (loads : List ℕ)
    → numbers ≡ map (λ m. m.number) nodes → loads ≡ map (λ m. load m.number) nodes → zip numbers loads ≡ loads_by nodes load
loads-zipped nodes load numbers loads named counted = ap₂ zip named counted ∙ zipped nodes load

-- ---- the load of one node

module _ (n : NodeNo) where
  read : (numbers : List NodeNo) (loads : List ℕ) → length numbers ≡ length loads
      → load_in (zip numbers loads) n ≡ slice_get loads (position_or_len (same_node n) numbers)
  read [] [] same = refl
  read [] (k ∷ ks) same = absurd (omega (arith, same))
  read (m ∷ ms) [] same = absurd (omega (arith, same))
  read (m ∷ ms) (k ∷ ks) same = elim (cases_Bool (same_node n m)) [
    | inl hit ↦ rw hit refl
    | inr miss ↦ rw (miss, one-add) (read ms ks (omega (arith, same)))
  ]

  found : (numbers : List NodeNo) (i : ℕ) → position (same_node n) numbers ≡ Some i → (position_or_len (same_node n) numbers ≡ i) × (i < length numbers)
  found numbers i is_at = elim (cases_lt (position_or_len (same_node n) numbers) (length numbers)) [
    | inl within ↦
        let same : position_or_len (same_node n) numbers ≡ i = same_Some _ _ (rw (lt-ltb _ _ within) at is_at) in
        (same, rw (← same) within)
    | inr past ↦ absurd (let none : None ≡ Some i = rw (le-ltb _ _ past) at is_at in cc)
  ]

  absent : (numbers : List NodeNo) → position (same_node n) numbers ≡ None → length numbers ≤ position_or_len (same_node n) numbers
  absent numbers none = elim (cases_lt (position_or_len (same_node n) numbers) (length numbers)) [
    | inl within ↦ absurd (let some : Some (position_or_len (same_node n) numbers) ≡ None = rw (lt-ltb _ _ within) at none in cc)
    | inr past ↦ past
  ]

  module _ (numbers : List NodeNo) (loads : List ℕ) (long : length numbers ≡ length loads) where
    pub load-within : (i : ℕ) → position (same_node n) numbers ≡ Some i → i < length loads
    load-within i is_at = let within = (found numbers i is_at).1 in omega (arith, within, long)

    -- the load at the position of a node is the node's
    pub load-here : (i load : ℕ) → position (same_node n) numbers ≡ Some i → load ≡ get_or loads i load → Some load ≡ load_in (zip numbers loads) n
    load-here i load is_at here =
        sym (read numbers loads long ∙ ap (slice_get loads) (found numbers i is_at).0
        ∙ slice_get_read loads (length loads) i load refl (load-within i is_at) here)

    -- a node without a position has no load
    pub load-none : position (same_node n) numbers ≡ None → None ≡ load_in (zip numbers loads) n
    load-none none =
        let past = absent numbers none in
        sym (read numbers loads long ∙ slice_get_past loads (position_or_len (same_node n) numbers) (omega (arith, past, long)))
