use Rattle.std.proofs.Common.{Bool, List, false, length, get_or, ap, ◌∙◌}
use Rattle.lrc_nodes.specs.declared.node_state.NodeState.{NodeState}
use Rattle.lrc_nodes.specs.States.{up_in}
use Rattle.lrc_nodes.proofs.nodes.Nodes.up.Goals as goal

pub returns-clause-long : goal.returns-clause-long
returns-clause-long c = ap length c.deref.ensures.value ∙ c.self.invariant.flagged.long

pub returns-clause-each : goal.returns-clause-each
returns-clause-each c = λ n.
    ap (λ (flags : List Bool). get_or flags n.value false) c.deref.ensures.value
    ∙ (c.self.invariant.flagged.each n ∙ ap (λ (xs : List NodeState). up_in xs n) c.self.view_is)
