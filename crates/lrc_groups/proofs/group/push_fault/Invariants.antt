use Rattle.std.proofs.Common.{◌≡◌, ◌++◌, map}
use Rattle.lrc_groups.specs.Groups.{nodes_in_fault}
use Rattle.lrc_groups.proofs.group.push_fault.Given as goal

-- the numbers so far, and those of the nodes that are left
abbrev pub invariant-loop-node : goal.invariant-loop-node
invariant-loop-node l =
    l.numbers.items ++ map (λ n. n.number) (nodes_in_fault l.node-iterator l.fault)
    ≡ l.initial.numbers.items ++ map (λ n. n.number) (nodes_in_fault l.topology l.fault)
