use Rattle.std.proofs.Common.{◌≡◌, IsSome, List, sym, ap, subst, ◌∙◌}
use Rattle.lrc_topology.specs.declared.NodeInfo.{NodeInfo}
use Rattle.lrc_topology.specs.Nodes.{node_at}
use Rattle.lrc_nodes.specs.States.{down_in}
use Rattle.lrc_stripes.specs.Stored.{Stored}
use Rattle.lrc_rules.specs.declared.reply.Reply.TheVariants.{Changed}
use Rattle.lrc_rules.specs.Steps.{node_outcome, emptied_if, changed_on}
use Rattle.lrc_rules.proofs.NodeCommandLemmas.{done-allowed}
use Rattle.lrc_store.specs.declared.store.Store.{Store}
use Rattle.lrc_store.specs.Stores.{IsOf}
use Rattle.lrc_store.proofs.NodeCommandLemmas.{wrong-emptied, apart-emptied, command-kept}
use Rattle.lrc_store.proofs.NodeStateLemmas.{down-known}
use Rattle.lrc_store.proofs.store.Store.change_node.Goals as goal

pub empty_if_failed-requires : goal.empty_if_failed-requires
empty_if_failed-requires g c = (c.requires.0, (done-allowed c.args.self.now.topology g.st c.args.command c.args.node c.requires.1).known)

pub set_state-requires : goal.set_state-requires
set_state-requires g c = record {
  tied = (emptied_if c.args.command g.st c.args.node, c.empty_if_failed.ensures.kept);
  known = subst (λ (nodes : List NodeInfo). IsSome (node_at nodes c.args.node)) (sym c.empty_if_failed.ensures.nodes)
      (done-allowed c.args.self.now.topology g.st c.args.command c.args.node c.requires.1).known;
}

pub returns-clause-kept : goal.returns-clause-kept
returns-clause-kept g c =
    let k = c.empty_if_failed.new.self in
    let kept = c.empty_if_failed.ensures.kept in
    let n = c.args.node in
    let command = c.args.command in
    let was = emptied_if command g.st n in
    let told = subst (λ (nodes : List NodeInfo). (node_outcome nodes g.st command n).0 ≡ Changed) (sym c.empty_if_failed.ensures.nodes) c.requires.1 in
    let allowed = done-allowed k.topology g.st command n told in
    let next = c.next_state-mode.ensures was n (c.mode.ensures was kept allowed.known)
    (c.is_down-was_down.ensures ∙ (ap (λ (t : Stored). down_in t.nodes n) kept.stripes_is ∙ down-known k.topology was n allowed.known))
    (wrong-emptied command g.st n ∙ allowed.right) (apart-emptied command g.st n c.requires.0.apart n) in
    let set = c.set_state.new.self in
    subst (λ (s : Store). IsOf (changed_on command g.st n) s) (sym c.set_state.ensures.rest)
    (command-kept command g.st n k kept c.requires.0.apart told c.next_state-mode.result.0 c.next_state-mode.result.1 next.0 next.1
    set.table set.stripes c.set_state.ensures.table c.set_state.ensures.stripes)
