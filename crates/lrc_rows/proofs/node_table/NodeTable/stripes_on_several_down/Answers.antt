use Rattle.std.proofs.Common.{Bool, ◌<◌, ◌∙◌, ◌||◌, ◌&&◌, arith, ap, sym, nat_lt, List, length}
use Rattle.std.proofs.Math.Path.{fun_ext}
use Rattle.std.proofs.lemmas.List.{take_all, length-map}
use Rattle.lrc_code.specs.declared.numbers.StripeNo.{StripeNo}
use Rattle.lrc_code.specs.declared.numbers.NodeNo.{NodeNo}
use Rattle.lrc_topology.specs.declared.NodeInfo.{NodeInfo}
use Rattle.lrc_nodes.specs.declared.node_state.NodeState.{NodeState}
use Rattle.lrc_ranks.specs.Sets.{has}
use Rattle.lrc_rows.specs.NodeStates.{states_in}
use Rattle.lrc_nodes.specs.States.{is_node_offline}
use Rattle.lrc_nodes.proofs.StateLemmas.{no_state}
use Rattle.lrc_rows.proofs.ShortLemmas.{counted, same-next, once-next, more-next, up-there, set-past, on_more-nodes}
use Rattle.lrc_rows.proofs.node_table.NodeTable.stripes_on_several_down.Goals as goal
use Rattle.lrc_rows.proofs.node_table.NodeTable.stripes_on_several_down.Goals.{then-not-is_up_at, else-not-is_up_at}

pub loop-position-preserved : goal.loop-position-preserved
loop-position-preserved c =
    let z = states_in c.args.self.now in
    let xs = c.self.inside.nodes in
    let sets = c.self.inside.stripes.items in
    let from = c.loop-position.from in
    let p = c.in-Some.position in
    let found = c.in-Some.ensures in
    let within : p < length xs = omega (arith, found.within, length-map xs is_node_offline) in
    let before = c.loop-position.invariant in
    let one = set-past xs sets c.args.self.now c.self.view_is c.self.invariant.apart 0 c.loop-position.any from p found.later (omega (arith, within)) found.first before.one in
    let two = set-past xs sets c.args.self.now c.self.view_is c.self.invariant.apart 1 c.loop-position.several from p found.later (omega (arith, within)) found.first before.two in
    let said = up-there xs sets c.args.self.now c.self.view_is c.self.invariant.apart p no_state within ∙ sym (c.is_up_at.ensures no_state) in
    elim c.if-not-is_up_at.branch [
      | then-not-is_up_at w ↦
          let down = said ∙ w.if-not-is_up_at.true in
          let at = ap (λ (n : NodeInfo). n.number) (w.node_at.ensures no_state) in
          record {
            within = omega (arith, within);
            one = ap has w.any-is ∙ once-next z xs p no_state within down c.loop-position.any _ one
                (w.count.ensures.any ∙ ap {B = StripeNo → Bool} (λ (k : NodeNo) (s : StripeNo). has c.loop-position.any s || z.on k s) at);
            two = ap has w.several-is ∙ more-next z xs p no_state within down 0 c.loop-position.any c.loop-position.several _ one two
                (w.count.ensures.several ∙ ap {B = StripeNo → Bool} (λ (k : NodeNo) (s : StripeNo). has c.loop-position.several s || (has c.loop-position.any s && z.on k s)) at);
          }
      | else-not-is_up_at w ↦
          let up = said ∙ w.if-not-is_up_at.false in
          record {
            within = omega (arith, within);
            one = ap has w.any-is ∙ same-next z xs p no_state within up 0 c.loop-position.any one;
            two = ap has w.several-is ∙ same-next z xs p no_state within up 1 c.loop-position.several two;
          }
    ]

pub returns : goal.returns
returns c =
    let xs = c.self.inside.nodes in
    let last = c.loop-position.invariant in
    set-past xs c.self.inside.stripes.items c.args.self.now c.self.view_is c.self.invariant.apart 1 c.loop-position.several c.loop-position.from (length xs) last.within (omega arith)
    (λ i low high. c.in_default.ensures i low) last.two
    ∙ (fun_ext (λ (s : StripeNo). ap (λ (ys : List NodeState). nat_lt 1 (counted (states_in c.args.self.now) s ys)) (take_all (length xs) xs (omega arith)))
    ∙ on_more-nodes 1 xs c.self.inside.stripes.items c.args.self.now c.self.view_is)
