use Rattle.std.proofs.Common.{◌<◌, Bool, length, arith, sym, ap, ◌∙◌, ◌||◌, List}
use Rattle.std.proofs.lemmas.List.{take_all}
use Rattle.lrc_code.specs.declared.numbers.StripeNo.{StripeNo}
use Rattle.lrc_code.specs.declared.numbers.NodeNo.{NodeNo}
use Rattle.lrc_topology.specs.declared.NodeInfo.{NodeInfo}
use Rattle.lrc_nodes.specs.States.{is_node_offline}
use Rattle.lrc_nodes.specs.declared.node_state.NodeState.{NodeState}
use Rattle.lrc_ranks.specs.Sets.{has}
use Rattle.lrc_rows.specs.NodeStates.{states_in}
use Rattle.lrc_nodes.proofs.StateLemmas.{no_state}
use Rattle.lrc_rows.proofs.NodeStateLemmas.{on_some, some-more, some-same, offline-all}
use Rattle.lrc_rows.proofs.node_table.NodeTable.stripes_offline.Goals as goal
use Rattle.lrc_rows.proofs.node_table.NodeTable.stripes_offline.Goals.{then-is_offline_at, else-is_offline_at}

pub loop-position-init : goal.loop-position-init
loop-position-init c = c.new-found.ensures

pub loop-position-preserved : goal.loop-position-preserved
loop-position-preserved c =
    let z = states_in c.args.self.now in
    let xs = c.self.inside.nodes in
    let i = c.loop-position.position in
    let within : i < length xs = omega (arith, c.len-position-end.ensures, c.loop-position-test.true) in
    let said = sym (c.is_offline_at.ensures no_state) in
    elim c.if-is_offline_at.branch [
      | then-is_offline_at w ↦
          let at = ap (λ (n : NodeInfo). n.number) (w.node_at.ensures no_state) in
          rw w.found-is (some-more z is_node_offline xs i no_state c.loop-position.found within c.loop-position.invariant _ (said ∙ w.if-is_offline_at.true)
          (w.join.ensures ∙ ap {B = StripeNo → Bool} (λ (k : NodeNo) (s : StripeNo). has c.loop-position.found s || z.on k s) at))
      | else-is_offline_at w ↦
          rw w.found-is (some-same z is_node_offline xs i no_state c.loop-position.found within c.loop-position.invariant (said ∙ w.if-is_offline_at.false))
    ]

pub returns : goal.returns
returns c =
    let xs = c.self.inside.nodes in
    let all = c.loop-position.invariant ∙ ap (λ (ys : List NodeState). on_some (states_in c.args.self.now) is_node_offline ys) (take_all c.loop-position.position xs (omega (arith, c.len-position-end.ensures, c.loop-position-test.false))) in
    λ n s off on. ap (λ (f : StripeNo → Bool). f s) all ∙ offline-all xs c.self.inside.stripes.items c.args.self.now c.self.view_is c.self.invariant.long n s off on
