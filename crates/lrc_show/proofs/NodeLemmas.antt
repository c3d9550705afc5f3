-- The rows of nodes.
use Rattle.std.proofs.Common.{◌≡◌, ℕ, List, [], ◌∷◌, ◌++◌, length, map, flat_map, refl, ap, ◌∙◌}
use Rattle.std.specs.Prelude.{count_by}
use Rattle.lrc_code.specs.Numbers.{same_node}
use Rattle.lrc_topology.specs.declared.NodeInfo.{NodeInfo}
use Rattle.lrc_terms.specs.declared.lease.Lease.{Lease}
use Rattle.lrc_rules.specs.States.{State}
use Rattle.lrc_book.specs.Looks.{homes_on}
use Rattle.lrc_show.specs.declared.nodes.NodeFacts.{NodeFacts}
use Rattle.lrc_show.specs.Listed.{all_leases, shown_node}
use Rattle.lrc_show.specs.Facts.{node_facts, node_line, facts_row}

module _ (st : State) where
  pub row-told : (leases : List Lease) (n : NodeFacts) (homes targets : ℕ) (old new : List ℕ) → new ≡ old ++ node_line n homes targets
      → homes ≡ length (homes_on st n.node.number) → targets ≡ count_by (λ l. same_node n.node.number l.target.node) leases → new ≡ old ++ facts_row st leases n
  unfolding facts_row
  row-told leases n homes targets old new told homed targeted =
      told ∙ ap (λ (k : ℕ). old ++ node_line n k targets) homed ∙ ap (λ (k : ℕ). old ++ node_line n (length (homes_on st n.node.number)) k) targeted

  row-is : (n : NodeInfo) → facts_row st (all_leases st) (node_facts st n) ≡ shown_node st n
  unfolding facts_row
  row-is n = refl

  own-rows : (nodes : List NodeInfo) → flat_map (facts_row st (all_leases st)) (map (node_facts st) nodes) ≡ flat_map (shown_node st) nodes
  own-rows [] = refl
  own-rows (n ∷ ns) =
      ap (λ (l : List ℕ). l ++ flat_map (facts_row st (all_leases st)) (map (node_facts st) ns)) (row-is n) ∙ ap (λ (l : List ℕ). shown_node st n ++ l) (own-rows ns)

  pub rows-told : (leases : List Lease) → leases ≡ all_leases st → (nodes : List NodeInfo) → flat_map (facts_row st leases) (map (node_facts st) nodes) ≡ flat_map (shown_node st) nodes
  rows-told leases are nodes = ap (λ (ls : List Lease). flat_map (facts_row st ls) (map (node_facts st) nodes)) are ∙ own-rows nodes
