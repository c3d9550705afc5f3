-- Internal: no public clause reaches these definitions.
-- The state of a store that has taken some rows of an image's nodes, and which row of each part of the image is refused
-- first.
use Rattle.std.specs.Prelude.{ℕ, ◌+◌, List, [], length, Option, option_map}
use Rattle.lrc_topology.specs.declared.NodeInfo.{NodeInfo}
use Rattle.lrc_terms.specs.Modes.{is_draining, is_gone}
use Rattle.lrc_rules.specs.States.{State, opening}
use Rattle.lrc_images.specs.declared.cause.Cause.{Cause}
use Rattle.lrc_images.specs.declared.image.NodeRow.{NodeRow}
use Rattle.lrc_images.specs.declared.image.Image.{Image}
use Rattle.lrc_images.specs.Images.{nodes_where}
use Rattle.lrc_images.specs.Causes.{first_answer, at_place, head_cause, node_cause, stripe_cause, grant_cause, lease_cause}

-- the state of the image with these of its nodes, and no stripes
abbrev pub with_nodes : Image → List NodeRow → State
with_nodes i rows =
    record opening {
      gone = nodes_where (λ r. is_gone r.mode) rows;
      draining = nodes_where (λ r. is_draining r.mode) rows;
      down = nodes_where (λ r. r.is_down) rows;
      upgrading = i.upgrading;
      clock = i.clock;
    }

-- ---- the positions of the first rows of the lists; those of the nodes are counted from 1

abbrev pub stripes_from : Image → ℕ
stripes_from i = 1 + length i.nodes.items

abbrev pub grants_from : Image → ℕ
grants_from i = stripes_from i + length i.stripes.items

abbrev pub leases_from : Image → ℕ
leases_from i = grants_from i + length i.grants.items

-- ---- the first cause of each part, with the position of its row

abbrev pub head_refusal : List NodeInfo → Image → Option (ℕ × Cause)
head_refusal nodes i = option_map (λ c. (0, c)) (head_cause nodes i)

abbrev pub nodes_refusal : List NodeInfo → Image → Option (ℕ × Cause)
nodes_refusal nodes i = first_answer (at_place 1 (node_cause nodes)) [] i.nodes.items

abbrev pub stripes_refusal : List NodeInfo → Image → Option (ℕ × Cause)
stripes_refusal nodes i = first_answer (at_place (stripes_from i) (stripe_cause nodes i)) [] i.stripes.items

abbrev pub grants_refusal : Image → Option (ℕ × Cause)
grants_refusal i = first_answer (at_place (grants_from i) grant_cause) [] i.grants.items

abbrev pub leases_refusal : List NodeInfo → Image → Option (ℕ × Cause)
leases_refusal nodes i = first_answer (at_place (leases_from i) (lease_cause nodes i)) [] i.leases.items
