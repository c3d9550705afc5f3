use Rattle.std.proofs.Common.{◌≡◌, take, filter}
use Rattle.lrc_terms.specs.Modes.{is_active}
use Rattle.lrc_show.proofs.health.active_nodes.Given as goal

-- the active nodes so far
abbrev pub invariant-loop-node : goal.invariant-loop-node
invariant-loop-node l = l.rows.items ≡ filter (λ n. is_active n.mode) (take l.node-index l.node-items)
