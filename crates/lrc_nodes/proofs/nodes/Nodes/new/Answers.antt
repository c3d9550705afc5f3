use Rattle.std.proofs.Common.{◌≤◌, ◌&&◌, false, get_or, ap, sym, subst, map, length, List, ◌∙◌}
use Rattle.lrc_topology.specs.declared.NodeInfo.{NodeInfo}
use Rattle.lrc_topology.proofs.IndexLemmas.{numbers-apart}
use Rattle.lrc_nodes.specs.declared.node_state.NodeState.{NodeState}
use Rattle.lrc_nodes.specs.States.{first_state}
use Rattle.lrc_nodes.specs.Kept.{AreUp}
use Rattle.lrc_nodes.proofs.FirstLemmas.{states-at_first, positions-none, none-set}
use Rattle.lrc_nodes.proofs.nodes.Nodes.new.Goals as goal

pub positions_by_upgrade-requires : goal.positions_by_upgrade-requires
positions_by_upgrade-requires c = subst (λ (ns : List NodeInfo). length ns ≤ 512) (sym c.in_ok-list.ensures.value) c.in_ok-list.ensures.known.few

pub invariant_of-result : goal.invariant_of-result
invariant_of-result c =
    let all = c.in_ok-list.ensures.value in
    record {
      found = c.in_ok-new.ensures.value ∙ ap (map (λ (n : NodeInfo). n.number)) (sym all);
      apart = numbers-apart c.args.topology.now c.in_ok-list.ensures.known c.in_ok-new.field-0 c.in_ok-new.ensures.value;
      few = subst (λ (ns : List NodeInfo). length ns ≤ 512) (sym all) c.in_ok-list.ensures.known.few;
      states = record {
        gone = positions-none _ _ c.new-2.ensures;
        draining = positions-none _ _ c.new-3.ensures;
        down = positions-none _ _ c.new-4.ensures;
        upgrading = positions-none _ _ c.new-5.ensures;
        one_mode = λ p. ap (λ b. b && get_or c.new-3.result p false) (none-set _ c.new-2.ensures p);
      };
      off = positions-none _ _ c.new-6.ensures;
      derived = λ p. rw (none-set _ c.new-2.ensures p, none-set _ c.new-4.ensures p, none-set _ c.new-5.ensures p) (none-set _ c.new-6.ensures p);
      grouped = c.in_ok-domains.ensures;
      flagged = subst (λ (xs : List NodeState). AreUp xs c.in_ok-up.up.items) (sym (states-at_first _ _ _ _ _ c.new-2.ensures c.new-3.ensures c.new-4.ensures c.new-5.ensures)) c.in_ok-up.ensures;
    }

pub returns-clause-value : goal.returns-clause-value
returns-clause-value c = states-at_first _ _ _ _ _ c.new-2.ensures c.new-3.ensures c.new-4.ensures c.new-5.ensures ∙ ap (map first_state) c.in_ok-list.ensures.value
