use Rattle.std.proofs.Common.{IsSome, IsTrue, if◌then◌else◌, refl, ap, subst, sym, ◌∙◌}
use Rattle.lrc_code.specs.Numbers.{same_node}
use Rattle.lrc_nodes.specs.States.{state_at, with_state}
use Rattle.lrc_rows.specs.NodeStates.{has_node, NodeLists, states_in, AreUpgrading}
use Rattle.lrc_rows.specs.Kept.{IsKept}
use Rattle.lrc_stripes.specs.Tables.{stored_in}
use Rattle.lrc_rows.specs.Listed.{rows_in}
use Rattle.lrc_rows.proofs.NodeStateLemmas.{known-state}
use Rattle.lrc_rows.proofs.RenewLemmas.{kept-state, same-then}
use Rattle.lrc_rows.proofs.UpgradingLemmas.{upgrading-state}
use Rattle.lrc_rows.specs.NodeStates.{is_on_several_down}
use Rattle.lrc_stripes.specs.UpgradeLosses.{lost_in}
use Rattle.lrc_stripes.proofs.StoredLemmas.{stored-set}
use Rattle.lrc_stripes.proofs.UpgradeLemmas.{like-state, up-same, off-same, all-same, several-same}
use Rattle.lrc_stripes.proofs.stripes.Stripes.set_state.Goals as goal

pub follow_draining-requires : goal.follow_draining-requires
follow_draining-requires c = record { losses = c.self.invariant.kept.losses; domains = c.self.invariant.kept.domains; listed = c.self.invariant.kept.listed }

pub set_state-requires : goal.set_state-requires
unfolding stored_in states_in
set_state-requires c = rw (← c.self.view_is) at c.requires

pub invariant_of-self : goal.invariant_of-self
unfolding stored_in states_in
invariant_of-self c =
    let s = c.self.inside in
    let first = c.follow_draining.ensures in
    let second = c.follow_up.ensures in
    let n = c.args.node in
    let is = c.set_state.ensures in
    let known : IsTrue (has_node (states_in s.node_table).nodes n) = rw (← c.self.view_is) at c.requires in
    let there : IsSome (state_at s.node_table.list n) = known-state s.node_table.list s.node_table.stripes s.node_table refl n known in
    let drained = kept-state s.node_table n c.args.mode c.args.is_down c.is_up-was_up.result c.is_draining.result (rows_in c.follow_draining.new.self.list) there c.is_up-was_up.ensures c.is_draining.ensures
    (record { losses = first.kept.losses; domains = first.kept.domains; listed = first.kept.listed }) in
    let kept = second.kept (subst (λ (t : NodeLists). IsKept (record (states_in t) { up = λ m. if same_node n m then c.is_up-was_up.result else (states_in t).up m }) (rows_in c.follow_draining.new.self.list)) (sym is) drained) in
    let z = states_in s.node_table in
    let y = states_in c.set_state.new.self in
    let like = like-state s.node_table c.set_state.new.self n c.args.mode c.args.is_down is in
    let same = same-then _ _ _ first.same second.same in
    record {
      kept = kept;
      upgrading = subst (λ (t : NodeLists). AreUpgrading t.list c.follow_up.new.self.upgrading) (sym is)
          (subst (AreUpgrading (with_state s.node_table.list n c.args.mode c.args.is_down)) (sym (second.upgrading ∙ first.upgrading))
          (upgrading-state s.node_table.list n c.args.mode c.args.is_down s.rows.upgrading c.self.invariant.upgrading));
      verdicts =
          c.follow_up-2.ensures (lost_in z s.rows.list) (lost_in y c.follow_up.new.self.list) (is_on_several_down z) (is_on_several_down y) c.self.invariant.verdicts
          (λ u t off. off-same z y n like.nodes like.others s.rows.list c.follow_up.new.self.list same u t (sym (kept.listed n t) ∙ off))
          (λ stays.
          let up = up-same z y n like.others (stays ∙ c.is_up-was_up.ensures) in
          (all-same z y like.nodes up s.rows.list c.follow_up.new.self.list same, several-same z y like.nodes up s.rows.list c.follow_up.new.self.list same like.on));
    }

pub returns : goal.returns
unfolding stored_in states_in
returns c =
    let s = c.self.inside in
    rw (← c.self.view_is)
    (stored-set s.node_table c.set_state.new.self (with_state s.node_table.list c.args.node c.args.mode c.args.is_down) s.rows.list c.follow_up.new.self.list
    (ap (λ (t : NodeLists). t.list) c.set_state.ensures) (same-then _ _ _ c.follow_draining.ensures.same c.follow_up.ensures.same))
