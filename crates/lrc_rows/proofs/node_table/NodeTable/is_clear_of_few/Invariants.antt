use Rattle.std.proofs.Common.{◌≡◌, ℕ, ◌<◌, true, false, [], map, get_or}
use Rattle.lrc_nodes.specs.States.{is_node_offline}
use Rattle.lrc_ranks.specs.Sets.{has}
use Rattle.lrc_rows.proofs.node_table.NodeTable.is_clear_of_few.Given as goal

-- the nodes so far that are offline do not have the stripe
abbrev pub invariant-loop : goal.invariant-loop
invariant-loop l = (k : ℕ) → k < l.from → get_or (map is_node_offline l.self-inside.nodes) k false ≡ true → has (get_or l.self-inside.stripes.items k []) l.stripe ≡ false
