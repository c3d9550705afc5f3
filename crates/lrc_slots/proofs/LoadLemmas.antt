-- The loads of the rows, and those of the nodes.
use Rattle.std.proofs.Common.{◌≡◌, ℕ, ◌≤◌, List, [], ◌∷◌, map, get_or, Some, IsSome, arith, refl, sym, ap, ap₂, ◌∙◌}
use Rattle.std.proofs.lemmas.List.{get_or-map}
use Rattle.std.proofs.lemmas.List.Elements.{All-from_recursion}
use Rattle.std.specs.List.{All, AllByRecursion}
use Rattle.lrc_code.specs.declared.numbers.NodeNo.{NodeNo}
use Rattle.lrc_topology.specs.declared.NodeInfo.{NodeInfo}
use Rattle.lrc_topology.specs.Nodes.{AreNodes, IsInRange, node_at}
use Rattle.lrc_slots.specs.Slots.{load_at}
use Rattle.lrc_slots.specs.Tables.{Table, row_at, slots_of}
use Rattle.lrc_slots.specs.Rows.{position_of, row_load}
use Rattle.lrc_slots.proofs.ChoiceLemmas.{rows-found}
use Rattle.lrc_slots.proofs.RowLemmas.{load-most}
use Rattle.lrc_slots.proofs.TableLemmas.{slots_of-nodes, known-row, row-here, row-position_of, load-alone, slots-few}

-- the load that is read at the position of a node is the node's
pub load-at : (rows : Table) (n : NodeNo) (i load : ℕ) (counts : List ℕ) → counts ≡ map row_load rows
    → IsSome (node_at (slots_of rows).nodes n) → position_of rows n ≡ Some i → load ≡ get_or counts i load
    → load ≡ load_at (slots_of rows) n
load-at rows n i load counts counted known is_at read =
    let row = known-row rows n known in
    let within = (row-position_of rows n i is_at).1 in
    read ∙ ap (λ xs. get_or xs i load) counted ∙ get_or-map row_load rows i row.0 load within
    ∙ ap row_load (row-here rows n row.0 i row.1 is_at row.0) ∙ sym (load-alone rows n row.0 row.1)

-- the load of a node is at most 256
pub load-few : (rows : Table) (n : NodeNo) → AreNodes (map (λ r. r.node) rows) → IsSome (node_at (slots_of rows).nodes n)
    → load_at (slots_of rows) n ≤ 256
load-few rows n nodes known =
    let row = known-row rows n known in
    let most : row_load row.0 ≤ row.0.node.slots = load-most row.0 in
    let few = slots-few rows n row.0 nodes.ranges row.1 in
    omega (arith, most, few, load-alone rows n row.0 row.1)

module _ (rows : Table) where
  each-load : (some : Table) → AllByRecursion (λ r. row_at rows r.node.number ≡ Some r) some
      → map row_load some ≡ map (λ n. load_at (slots_of rows) n.number) (map (λ r. r.node) some)
  each-load [] found = refl
  each-load (r ∷ rs) found =
      ap₂ (λ (k : ℕ) (ks : List ℕ). k ∷ ks) (sym (load-alone rows r.node.number r found.0)) (each-load rs found.1)

  -- the loads of the rows are those of the nodes
  pub loads-shown : AreNodes (map (λ r. r.node) rows) → map row_load rows ≡ map (λ n. load_at (slots_of rows) n.number) (slots_of rows).nodes
  loads-shown nodes =
      each-load rows (rows-found rows nodes)
      ∙ ap (map (λ (n : NodeInfo). load_at (slots_of rows) n.number)) (sym (slots_of-nodes rows))

few-of : (rows : Table) → AllByRecursion IsInRange (map (λ r. r.node) rows) → AllByRecursion (λ load. load ≤ 256) (map row_load rows)
few-of [] ranges = tt
few-of (r ∷ rs) ranges =
    let most : row_load r ≤ r.node.slots = load-most r in
    (omega (arith, most, ranges.0.4), few-of rs ranges.1)

-- each is at most 256
pub loads-few : (rows : Table) → AreNodes (map (λ r. r.node) rows) → All (λ load. load ≤ 256) (map row_load rows)
loads-few rows nodes = All-from_recursion (λ load. load ≤ 256) (map row_load rows) (few-of rows nodes.ranges)
