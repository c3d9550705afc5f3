use Rattle.std.proofs.Common.{ℕ, List, false, get_or, arith, ap, ◌∙◌}
use Rattle.std.proofs.lemmas.List.{get_or_default}
use Rattle.lrc_nodes.specs.declared.node_state.NodeState.{NodeState}
use Rattle.lrc_nodes.specs.States.{up_in}
use Rattle.lrc_nodes.proofs.nodes.Nodes.is_up.Goals as goal

pub index-requires : goal.index-requires
index-requires c = let long = c.self.invariant.flagged.long in omega (arith, long, c.from.ensures, c.self.inside.up.ok.0)

pub returns : goal.returns
returns c =
    c.index.ensures ∙ (get_or_default c.self.inside.up.items c.from.result c.index.result.now false (let long = c.self.invariant.flagged.long in omega (arith, long, c.from.ensures))
    ∙ (ap (λ (k : ℕ). get_or c.self.inside.up.items k false) c.from.ensures ∙ (c.self.invariant.flagged.each c.args.number ∙ ap (λ (xs : List NodeState). up_in xs c.args.number) c.self.view_is)))
