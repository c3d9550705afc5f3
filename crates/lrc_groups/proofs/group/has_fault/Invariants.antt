use Rattle.std.proofs.Common.{◌≡◌}
use Rattle.lrc_groups.specs.Groups.{has_fault}
use Rattle.lrc_groups.proofs.group.has_fault.Given as goal

-- a node is in the domain if one that is left is
abbrev pub invariant-loop-node : goal.invariant-loop-node
invariant-loop-node l = has_fault l.node-iterator l.domain ≡ has_fault l.topology l.domain
