use Rattle.std.proofs.Common.{◌≡◌, ◌++◌, map, take}
use Rattle.lrc_groups.proofs.group.push_upgrade.Given as goal

-- the numbers so far
abbrev pub invariant-loop-node : goal.invariant-loop-node
invariant-loop-node l = l.numbers.items ≡ l.initial.numbers.items ++ map (λ n. n.number) (take l.node-index l.node-items)
