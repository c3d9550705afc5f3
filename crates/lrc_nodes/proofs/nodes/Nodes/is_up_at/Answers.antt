use Rattle.std.proofs.Common.{◌&&◌, Bool, not, sym, ap, ◌∙◌}
use Rattle.lrc_nodes.specs.States.{is_node_up}
use Rattle.lrc_nodes.proofs.nodes.Nodes.is_up_at.Goals as goal

pub returns-then-not-is_gone : goal.returns-then-not-is_gone
returns-then-not-is_gone c = λ d.
    ap (λ (b : Bool). not b && not c.at-state.result.is_down) (sym c.if-not-is_gone.true ∙ c.is_gone.ensures) ∙ ap is_node_up (c.at-state.ensures d)

pub returns-else-not-is_gone : goal.returns-else-not-is_gone
returns-else-not-is_gone c = λ d. ap not c.if-not-is_gone.false ∙
    ap (λ (b : Bool). not b && not c.at-state.result.is_down) (sym c.if-not-is_gone.false ∙ c.is_gone.ensures) ∙ ap is_node_up (c.at-state.ensures d)
