-- Internal: no public clause reaches these definitions.
-- The indexes of a table: rows by node number and by ordinal; the load of each row; ordinals by load, by fault domain
-- and by upgrade domain.
use Rattle.std.specs.Prelude.{◌≡◌, ℕ, ◌/◌, ◌<◌, ◌≤◌, ◌⊎◌, Bool, true, false, ◌&&◌, ◌||◌, nat_eq, List, [], length, get_or, map, is_some, Option, Some, None}
use Rattle.std.specs.List.{All}
use Rattle.lrc_code.specs.declared.numbers.NodeNo.{NodeNo}
use Rattle.lrc_topology.specs.declared.NodeInfo.{NodeInfo}
use Rattle.lrc_topology.specs.Nodes.{AreNodes}
use Rattle.lrc_slots.specs.Slots.{least_free, taken_count}
use Rattle.lrc_slots.specs.Barred.{Barred}
use Rattle.lrc_slots.specs.declared.listing.Listing.{Listing}
use Rattle.lrc_slots.specs.Tables.{Row, Table}
use Rattle.lrc_slots.specs.Rows.{alone, row_load}
use Rattle.lrc_slots.specs.BarredNodes.{ordinal_of}

-- the node with this ordinal is listed with this load
abbrev pub listed : List (List Bool) → ℕ → ℕ → Bool
listed sets load ordinal = get_or (get_or sets load []) ordinal false

-- sets of ordinals for all 256 loads, and `used`, the loads with a node
pub record AreSets (sets : List (List Bool)) (used : List Bool) : Type 0 where
  pub loads : length sets ≡ 256
  pub ordinals : All (λ set. length set ≡ 512) sets
  pub marks : length used ≡ 256
  pub covered : (load ordinal : ℕ) → listed sets load ordinal ≡ true → get_or used load false ≡ true
  pub filled : (load : ℕ) → get_or used load false ≡ true → (ordinal : ℕ) × (listed sets load ordinal ≡ true)

-- the second pair of load and ordinal is the first one or comes later
abbrev pub IsFrom : ℕ → ℕ → ℕ → ℕ → Type 0
IsFrom load ordinal other r = (load < other) ⊎ ((load ≡ other) × (ordinal ≤ r))

-- the pair of load and ordinal is the first one listed whose ordinal is not barred
pub record IsLeastOutside (sets : List (List Bool)) (bars : ℕ → Bool) (load ordinal : ℕ) : Type 0 where
  pub here : listed sets load ordinal ≡ true
  pub free : bars ordinal ≡ false
  pub first : (other r : ℕ) → listed sets other r ≡ true → bars r ≡ false → IsFrom load ordinal other r

-- what a search for this ordinal returns
abbrev pub FindsLeast : List (List Bool) → (ℕ → Bool) → Option ℕ → Type 0
FindsLeast sets bars None = (load ordinal : ℕ) → listed sets load ordinal ≡ true → bars ordinal ≡ true
FindsLeast sets bars (Some ordinal) = (load : ℕ) × IsLeastOutside sets bars load ordinal

-- the ordinal is the lowest of these that is not barred
pub record IsFirstOpen (Of : ℕ → Type 0) (bars : ℕ → Bool) (ordinal : ℕ) : Type 0 where
  pub here : Of ordinal
  pub free : bars ordinal ≡ false
  pub first : (r : ℕ) → Of r → bars r ≡ false → ordinal ≤ r

-- what a search for this ordinal returns
abbrev pub FindsOpen : (ℕ → Type 0) → (ℕ → Bool) → Option ℕ → Type 0
FindsOpen Of bars None = (r : ℕ) → Of r → bars r ≡ true
FindsOpen Of bars (Some ordinal) = IsFirstOpen Of bars ordinal

-- the ordinal is in the set
abbrev pub IsOf : List Bool → ℕ → Type 0
IsOf set ordinal = get_or set ordinal false ≡ true

-- the ordinal is in the set, and in this word
abbrev pub IsOfWord : List Bool → ℕ → ℕ → Type 0
IsOfWord set word ordinal = (ordinal / 64 ≡ word) × (get_or set ordinal false ≡ true)

-- each ordinal of the set is that of a row
abbrev pub AreOfRows : Table → List ℕ → List Bool → Type 0
AreOfRows rows at set = (ordinal : ℕ) → get_or set ordinal false ≡ true → (ordinal < length at) × (get_or at ordinal 0 < length rows)

-- the ordinal is in one of the sets; as a test
abbrev pub is_of_either : List Bool → List Bool → ℕ → Bool
is_of_either set other ordinal = get_or set ordinal false || get_or other ordinal false

-- the two pairs of load and ordinal are the same
abbrev pub same_key : ℕ → ℕ → ℕ → ℕ → Bool
same_key load ordinal l r = nat_eq load l && nat_eq ordinal r

-- the listing has this load; a node that takes no seats has none
abbrev pub is_listing_of : Listing → ℕ → Bool
is_listing_of e k = e.is_open && nat_eq e.load k

-- ---- the indexes of a table

-- a default row, for reads after the last
abbrev pub no_row : Row
no_row = record {
  node = record { number = record { value = 0 }; fault = record { value = 0 }; upgrade = record { value = 0 }; slots = 0 };
  eligible = false;
  taken = [];
}

-- the row with this ordinal is in a barred domain
abbrev pub is_barred_at : Table → List ℕ → Barred → ℕ → Bool
is_barred_at rows at b ordinal =
    let n = (get_or rows (get_or at ordinal 0) no_row).node in
    b.faults n.fault || b.upgrades n.upgrade

-- the row is listed with this load: it is eligible, has a free slot, and has this many taken
abbrev pub is_listed : Row → ℕ → Bool
is_listed r load = r.eligible && is_some (least_free (alone r) r.node) && nat_eq (taken_count (alone r) r.node) load

-- the ordinals of the nodes, in order
abbrev pub ordinals_of : List NodeInfo → List ℕ
ordinals_of nodes = map (ordinal_of nodes) nodes

-- The ordinals of the rows: `ordinals` has the ordinal of each row, and `at` the position of the row with each
-- ordinal.
pub record AreOrdinals (rows : Table) (ordinals at : List ℕ) : Type 0 where
  pub complete : length ordinals ≡ length rows
  pub long : length at ≡ 512
  pub low : (i : ℕ) → i < length rows → get_or ordinals i 0 < 512
  pub back : (i : ℕ) → i < length rows → get_or at (get_or ordinals i 0) 0 ≡ i
  pub counted : ordinals ≡ ordinals_of (map (λ r. r.node) rows)
  pub rising : (i j : ℕ) (d : Row) → i < length rows → j < length rows
      → (get_or rows i d).node.number.value < (get_or rows j d).node.number.value
      → get_or ordinals i 0 < get_or ordinals j 0

-- the set of key `k` has exactly the ordinals of the rows that pass the test for `k`
pub record Shows (rows : Table) (ordinals at : List ℕ) (test : Row → ℕ → Bool) (sets : List (List Bool)) : Type 0 where
  pub shown : (i k : ℕ) (d : Row) → i < length rows → listed sets k (get_or ordinals i 0) ≡ test (get_or rows i d) k
  pub known : (k r : ℕ) → listed sets k r ≡ true → (get_or at r 0 < length rows) × (get_or ordinals (get_or at r 0) 0 ≡ r)

-- the row's node is in this fault domain
abbrev pub is_in_fault : Row → ℕ → Bool
is_in_fault r d = nat_eq r.node.fault.value d

-- the row's node is in this upgrade domain
abbrev pub is_in_upgrade : Row → ℕ → Bool
is_in_upgrade r d = nat_eq r.node.upgrade.value d

-- the indexes of a table belong to its rows
pub record AreIndexed (rows : Table) (numbers : List NodeNo) (ordinals at counts : List ℕ) (loads faults upgrades : List (List Bool)) : Type 0 where
  pub nodes : AreNodes (map (λ r. r.node) rows)
  pub numbered : numbers ≡ map (λ r. r.node.number) rows
  pub by_ordinal : AreOrdinals rows ordinals at
  pub counted : counts ≡ map row_load rows
  pub by_load : Shows rows ordinals at is_listed loads
  pub by_fault : Shows rows ordinals at is_in_fault faults
  pub by_upgrade : Shows rows ordinals at is_in_upgrade upgrades

-- the ordinal is in the set of one of these keys
abbrev pub IsJoined : List Bool → List (List Bool) → ℕ → Type 0
IsJoined named sets ordinal = (d : ℕ) × (get_or named d false ≡ true) × (listed sets d ordinal ≡ true)
