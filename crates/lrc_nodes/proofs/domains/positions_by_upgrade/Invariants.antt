use Rattle.lrc_nodes.specs.Kept.{AreDomains}
use Rattle.lrc_nodes.proofs.domains.positions_by_upgrade.Given as goal

-- the positions of the nodes so far
abbrev pub invariant-loop-position : goal.invariant-loop-position
invariant-loop-position l = AreDomains l.nodes.items l.position l.domains.items
