use Rattle.std.proofs.Common.{Bool, sym, ap, ◌∙◌, ◌||◌}
use Rattle.lrc_bars.specs.Neighbouring.{seats_bar}
use Rattle.lrc_bars.proofs.neighbours.Neighbours.are_near.Goals as goal

pub returns-then-are_near : goal.returns-then-are_near
returns-then-are_near c =
    let n = c.args.self.now in
    let node = c.args.node.now in
    c.if-are_near.true
    ∙ ap (λ (b : Bool). b || ((seats_bar n.targets).faults node.fault || (seats_bar n.targets).upgrades node.upgrade)) (sym c.if-are_near.true ∙ c.are_near.ensures)

pub returns-else-are_near : goal.returns-else-are_near
returns-else-are_near c =
    let n = c.args.self.now in
    let node = c.args.node.now in
    c.are_near-else-are_near.ensures
    ∙ ap (λ (b : Bool). b || ((seats_bar n.targets).faults node.fault || (seats_bar n.targets).upgrades node.upgrade)) (sym c.if-are_near.false ∙ c.are_near.ensures)
