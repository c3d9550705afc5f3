use Rattle.std.proofs.Common.{Bool, sym, ap, ◌∙◌, ◌||◌}
use Rattle.lrc_slots.specs.Tables.{barred}
use Rattle.lrc_bars.specs.Neighbouring.{seats_bar}
use Rattle.lrc_bars.proofs.NeighbourLemmas.{near-both}
use Rattle.lrc_bars.proofs.neighbours.NeighboursBarring.bars.Goals as goal

pub returns-then-are_near : goal.returns-then-are_near
returns-then-are_near c =
    let homes = seats_bar c.args.self.now.homes in
    let targets = seats_bar c.args.self.now.targets in
    let more = barred c.args.self.now.more.now in
    let node = c.args.node.now in
    c.if-are_near.true
    ∙ ap (λ (b : Bool). b || (more.faults node.fault || more.upgrades node.upgrade)) (sym c.if-are_near.true ∙ c.are_near.ensures)
    ∙ near-both (homes.faults node.fault) (homes.upgrades node.upgrade) (targets.faults node.fault) (targets.upgrades node.upgrade) (more.faults node.fault) (more.upgrades node.upgrade)

pub returns-else-are_near : goal.returns-else-are_near
returns-else-are_near c =
    let homes = seats_bar c.args.self.now.homes in
    let targets = seats_bar c.args.self.now.targets in
    let more = barred c.args.self.now.more.now in
    let node = c.args.node.now in
    c.bars.ensures
    ∙ ap (λ (b : Bool). b || (more.faults node.fault || more.upgrades node.upgrade)) (sym c.if-are_near.false ∙ c.are_near.ensures)
    ∙ near-both (homes.faults node.fault) (homes.upgrades node.upgrade) (targets.faults node.fault) (targets.upgrades node.upgrade) (more.faults node.fault) (more.upgrades node.upgrade)
