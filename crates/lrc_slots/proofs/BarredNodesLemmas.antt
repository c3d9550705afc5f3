-- Which nodes are in barred domains, by the ordinals of their rows.
use Rattle.std.proofs.Common.{◌≡◌, ℕ, ◌<◌, Bool, true, false, ◌||◌, List, length, get_or, map, refl, sym, ap, ◌∙◌, subst}
use Rattle.std.proofs.lemmas.List.{get_or-map, length-map}
use Rattle.lrc_code.specs.declared.numbers.FaultNo.{FaultNo}
use Rattle.lrc_code.specs.declared.numbers.UpgradeNo.{UpgradeNo}
use Rattle.lrc_code.specs.Numbers.{same_fault, same_upgrade}
use Rattle.lrc_topology.specs.declared.NodeInfo.{NodeInfo}
use Rattle.lrc_slots.specs.Barred.{Barred, joined, with_fault, with_upgrade}
use Rattle.lrc_slots.specs.BarredNodes.{AreBarredNodes, ordinal_of}
use Rattle.lrc_slots.specs.Tables.{Row, Table}
use Rattle.lrc_slots.specs.Indexes.{AreOrdinals, Shows, listed, is_in_fault, is_in_upgrade, is_of_either}
use Rattle.lrc_slots.proofs.SetupLemmas.{a_row, node-at}

-- the node is in a barred domain
abbrev is_barred : Barred → NodeInfo → Bool
is_barred b n = b.faults n.fault || b.upgrades n.upgrade

-- the third test may come before the second
last_first : (a b c : Bool) → ((a || b) || c) ≡ ((a || c) || b)
last_first true b c = refl
last_first false true true = refl
last_first false true false = refl
last_first false false true = refl
last_first false false false = refl

-- or be grouped with it
last_last : (a b c : Bool) → ((a || b) || c) ≡ (a || (b || c))
last_last true b c = refl
last_last false b c = refl

-- the middle two of four tests may be exchanged
in_pairs : (a b c d : Bool) → ((a || b) || (c || d)) ≡ ((a || c) || (b || d))
in_pairs true b c d = refl
in_pairs false true true d = refl
in_pairs false true false d = refl
in_pairs false false c d = refl

module _ {rows : Table} {ordinals at : List ℕ} (h : AreOrdinals rows ordinals at) where
  -- the ordinal of a row is that of its node
  ordinal-node : (i : ℕ) (d : Row) → i < length rows → get_or ordinals i 0 ≡ ordinal_of (map (λ r. r.node) rows) (get_or rows i d).node
  ordinal-node i d within =
      let nodes = map (λ (r : Row). r.node) rows in
      ap (λ xs. get_or xs i 0) h.counted
      ∙ (get_or-map (ordinal_of nodes) nodes i d.node 0 (rw length-map within) ∙ ap (ordinal_of nodes) (node-at rows i d within))

  -- if the set holds for the nodes, it holds for their rows
  pub barred-row : (b : Barred) (by_ordinal : List Bool) → AreBarredNodes (map (λ r. r.node) rows) b by_ordinal → (i : ℕ) (d : Row)
      → i < length rows
      → get_or by_ordinal (get_or ordinals i 0) false ≡ (b.faults (get_or rows i d).node.fault || b.upgrades (get_or rows i d).node.upgrade)
  barred-row b by_ordinal all i d within =
      let nodes = map (λ (r : Row). r.node) rows in
      let inside : i < length nodes = rw length-map within in
      ap (λ r. get_or by_ordinal r false) (ordinal-node i d within)
      ∙ subst (λ n. get_or by_ordinal (ordinal_of nodes n) false ≡ is_barred b n) (node-at rows i d within) (all i d.node inside)

  -- the same for two sets: a row is barred if one of them bars it
  pub both-row : (b c : Barred) (by_ordinal other : List Bool) → AreBarredNodes (map (λ r. r.node) rows) b by_ordinal
      → AreBarredNodes (map (λ r. r.node) rows) c other → (i : ℕ) (d : Row) → i < length rows
      → is_of_either by_ordinal other (get_or ordinals i 0) ≡ is_barred (joined b c) (get_or rows i d).node
  both-row b c by_ordinal other all more i d within =
      let n = (get_or rows i d).node in
      rw (barred-row b by_ordinal all i d within, barred-row c other more i d within)
      (in_pairs (b.faults n.fault) (b.upgrades n.upgrade) (c.faults n.fault) (c.upgrades n.upgrade))

  -- if the set holds for the rows, it holds for their nodes
  pub barred-nodes : (b : Barred) (by_ordinal : List Bool)
      → ((i : ℕ) (d : Row) → i < length rows → get_or by_ordinal (get_or ordinals i 0) false
      ≡ (b.faults (get_or rows i d).node.fault || b.upgrades (get_or rows i d).node.upgrade))
      → AreBarredNodes (map (λ r. r.node) rows) b by_ordinal
  barred-nodes b by_ordinal each k e within =
      let nodes = map (λ (r : Row). r.node) rows in
      let inside : k < length rows = rw length-map at within in
      let d = a_row rows k inside in
      subst (λ n. get_or by_ordinal (ordinal_of nodes n) false ≡ is_barred b n) (sym (get_or-map (λ (r : Row). r.node) rows k d e inside))
      (ap (λ r. get_or by_ordinal r false) (sym (ordinal-node k d inside)) ∙ each k d inside)

  module _ (b : Barred) (old new set : List Bool) (all : AreBarredNodes (map (λ r. r.node) rows) b old)
      (added : (r : ℕ) → get_or new r false ≡ (get_or old r false || get_or set r false)) where
    -- a row is barred if it was, or if the added set has it
    row-added : (test : Row → ℕ → Bool) {sets : List (List Bool)} (number : ℕ) → Shows rows ordinals at test sets
        → ((r : ℕ) → get_or set r false ≡ listed sets number r)
        → (i : ℕ) (d : Row) → i < length rows
        → get_or new (get_or ordinals i 0) false ≡ (is_barred b (get_or rows i d).node || test (get_or rows i d) number)
    row-added test number s members i d within =
        rw (added (get_or ordinals i 0), barred-row b old all i d within, members (get_or ordinals i 0), s.shown i number d within) refl

    -- the nodes of one more fault domain are barred
    pub barred-fault : {sets : List (List Bool)} (domain : FaultNo) → Shows rows ordinals at is_in_fault sets
        → ((r : ℕ) → get_or set r false ≡ listed sets domain.value r)
        → AreBarredNodes (map (λ r. r.node) rows) (with_fault b domain) new
    barred-fault domain s members =
        barred-nodes (with_fault b domain) new
        (λ i d within. let n = (get_or rows i d).node in row-added is_in_fault domain.value s members i d within ∙ last_first
        (b.faults n.fault) (b.upgrades n.upgrade) (same_fault n.fault domain))

    -- the nodes of one more upgrade domain are barred
    pub barred-upgrade : {sets : List (List Bool)} (domain : UpgradeNo) → Shows rows ordinals at is_in_upgrade sets
        → ((r : ℕ) → get_or set r false ≡ listed sets domain.value r)
        → AreBarredNodes (map (λ r. r.node) rows) (with_upgrade b domain) new
    barred-upgrade domain s members =
        barred-nodes (with_upgrade b domain) new
        (λ i d within. let n = (get_or rows i d).node in row-added is_in_upgrade domain.value s members i d within ∙ last_last
        (b.faults n.fault) (b.upgrades n.upgrade) (same_upgrade n.upgrade domain))
