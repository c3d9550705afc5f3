use Rattle.std.proofs.Common.{◌≡◌, false, length, take, get_or}
use Rattle.std.specs.List.{list_any}
use Rattle.lrc_code.specs.declared.numbers.NodeNo.{NodeNo}
use Rattle.lrc_code.specs.Numbers.{same_node}
use Rattle.lrc_nodes.proofs.flags.by_number.Given as goal

-- the flags of the nodes so far are set, and no others
abbrev pub invariant-loop-node : goal.invariant-loop-node
invariant-loop-node l = record {
  long : length l.flags.items ≡ 65536;
  each : (n : NodeNo) → get_or l.flags.items n.value false ≡ list_any (λ k. same_node n k.number) (take l.node-index l.nodes.items);
}
