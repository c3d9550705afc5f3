use Rattle.std.proofs.Common.{rules, ◌≡◌, ◌≤◌, List, length, filter, sym, ap, subst, ◌∙◌}
use Rattle.std.proofs.lemmas.List.{take_all}
use Rattle.lrc_terms.specs.Modes.{is_active}
use Rattle.lrc_show.specs.declared.nodes.NodeFacts.{NodeFacts}
use Rattle.lrc_show.proofs.DomainLemmas.{few-kept}
use Rattle.lrc_show.proofs.health.active_nodes.Goals as goal

pub returns-clause-few : goal.returns-clause-few
returns-clause-few c =
    let items = c.as_slice-node-items.result.now in
    let same : items ≡ c.in_ok-nodes.nodes.items = search rules in
    let few : length items ≤ 512 = subst (λ (l : List NodeFacts). length l ≤ 512) (sym same) c.in_ok-nodes.ensures.few in
    few-kept (λ (n : NodeFacts). is_active n.mode) items c.loop-node.rows.items 512
    (c.loop-node.invariant ∙ ap (filter (λ (n : NodeFacts). is_active n.mode)) (take_all c.loop-node.node-index items c.loop-node-test.false)) few
