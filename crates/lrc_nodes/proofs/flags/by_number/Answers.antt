use Rattle.std.proofs.Common.{◌≡◌, ◌<◌, ◌≤◌, List, true, length, get_or, arith, ap, ◌∙◌}
use Rattle.std.proofs.Math.ListN.{length-set}
use Rattle.std.specs.List.{list_any}
use Rattle.std.proofs.lemmas.List.{take_all}
use Rattle.lrc_code.specs.Numbers.{same_node}
use Rattle.lrc_topology.specs.declared.NodeInfo.{NodeInfo}
use Rattle.lrc_nodes.proofs.StateLemmas.{no_state}
use Rattle.lrc_nodes.proofs.FirstLemmas.{flags-more, flags-all}
use Rattle.lrc_nodes.proofs.flags.by_number.Goals as goal

pub loop-node-init : goal.loop-node-init
loop-node-init c = record { long = c.in_ok-flags.ensures.long; each = λ n. c.in_ok-flags.ensures.none n.value }

pub loop-node-preserved : goal.loop-node-preserved
loop-node-preserved c =
    let nodes = c.args.nodes.now.items in
    let i = c.loop-node.node-index in
    let items = c.deref-node-items.ensures.value in
    let within : i < length nodes = let same : length c.deref-node-items.result.now ≡ length nodes = ap length items in omega (arith, c.loop-node-test.true, same) in
    let number : c.from.result ≡ (get_or nodes i no_state.node).number.value = c.from.ensures ∙ ap (λ (ns : List NodeInfo). (get_or ns i no_state.node).number.value) items in
    let long = c.loop-node.invariant.long in
    rw number (record {
      long = length-set c.loop-node.flags.items _ true ∙ long;
      each = flags-more nodes i no_state.node c.loop-node.flags.items within (omega (arith, long, number, c.from.ensures)) c.loop-node.invariant.each;
    })

pub returns : goal.returns
returns c =
    let nodes = c.args.nodes.now.items in
    let i = c.loop-node.node-index in
    let all : length nodes ≤ i = let same : length c.deref-node-items.result.now ≡ length nodes = ap length c.deref-node-items.ensures.value in omega (arith, c.loop-node-test.false, same) in
    record {
      long = c.loop-node.invariant.long;
      each = λ n. c.loop-node.invariant.each n ∙ (ap (λ (ns : List NodeInfo). list_any (λ k. same_node n k.number) ns) (take_all i nodes all) ∙ flags-all nodes n);
    }
