-- Which nodes are named together, and what a list of nodes lacks of them.
use Rattle.std.specs.Prelude.{ℕ, Bool, not, List, [], ◌∷◌, ◌++◌, map, flat_map, filter, find, codes, decimal, Option, is_some}
use Rattle.std.specs.List.{list_any}
use Rattle.lrc_code.specs.declared.numbers.NodeNo.{NodeNo}
use Rattle.lrc_code.specs.declared.numbers.FaultNo.{FaultNo}
use Rattle.lrc_code.specs.Numbers.{same_fault}
use Rattle.lrc_topology.specs.declared.NodeInfo.{NodeInfo}
use Rattle.lrc_topology.specs.Nodes.{node_at, has_domain, nodes_in}
use Rattle.lrc_groups.specs.declared.named.Named.{Named}
use Rattle.lrc_groups.specs.declared.named.Named.TheVariants as named

-- the nodes of a fault domain, in file order
abbrev pub nodes_in_fault : List NodeInfo → FaultNo → List NodeInfo
nodes_in_fault nodes d = filter (λ n. same_fault n.fault d) nodes

-- the fault domain has a node
abbrev pub has_fault : List NodeInfo → FaultNo → Bool
has_fault nodes d = list_any (λ n. same_fault n.fault d) nodes

-- the number of a node that is named, or those of the nodes of a domain that is
abbrev pub named_nodes : List NodeInfo → Named → List NodeNo
named_nodes nodes (named.Node n) = n ∷ []
named_nodes nodes (named.Fault d) = map (λ n. n.number) (nodes_in_fault nodes d)
named_nodes nodes (named.Upgrade u) = map (λ n. n.number) (nodes_in nodes u)

-- the numbers of all of them, one after the other
abbrev pub numbers_in : List NodeInfo → List Named → List NodeNo
numbers_in nodes all = flat_map (named_nodes nodes) all

-- a node has the number, or is in the domain
abbrev pub has_named : List NodeInfo → Named → Bool
has_named nodes (named.Node n) = is_some (node_at nodes n)
has_named nodes (named.Fault d) = has_fault nodes d
has_named nodes (named.Upgrade u) = has_domain nodes u

-- the first of them that no node has
abbrev pub first_lacking : List NodeInfo → List Named → Option Named
first_lacking nodes all = find (λ one. not (has_named nodes one)) all

-- a line with a name and a number
abbrev pub named_line : List ℕ → ℕ → List ℕ
named_line name number = name ++ codes " " ++ decimal number ++ codes "\n"

-- the line that names what is lacking
abbrev pub lacking_line : Named → List ℕ
lacking_line (named.Node n) = named_line (codes "node") n.value
lacking_line (named.Fault d) = named_line (codes "fault") d.value
lacking_line (named.Upgrade u) = named_line (codes "upgrade") u.value

-- what is lacking, in words
abbrev pub lacking_words : Named → List ℕ
lacking_words (named.Node _) = codes "there is no such node"
lacking_words (named.Fault _) = codes "no node is in this fault domain"
lacking_words (named.Upgrade _) = codes "no node is in this upgrade domain"
