use Rattle.std.proofs.Common.{arith}
use Rattle.lrc_topology.proofs.PlainLemmas.{entry_node}
use Rattle.lrc_topology.proofs.ReadLemmas.{entries_pass}
use Rattle.lrc_topology.proofs.RefusalLemmas.{too_long, nothing_refused}
use Rattle.lrc_topology.proofs.laws.nodes_are_accepted.Goals as goal

pub returns : goal.returns
returns c = record {
  node = entry_node;
  accepted = λ nodes are. nothing_refused nodes _ (entries_pass nodes are.some are.ranges) are.distinct are.few;
  many = λ nodes ranges distinct over. too_long nodes _ (entries_pass nodes (omega (arith, over)) ranges) distinct over;
}
