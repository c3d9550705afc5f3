use Rattle.std.proofs.Common.{◌∙◌}
use Rattle.lrc_topology.proofs.PositionLemmas.{position-map}
use Rattle.lrc_code.specs.Numbers.{same_node}
use Rattle.lrc_slots.specs.Tables.{Row}
use Rattle.lrc_slots.proofs.table.SlotTable.position.Goals as goal

pub returns : goal.returns
returns c =
    let rows = c.self.inside.rows.items in
    rw (← c.self.view_is) (rw c.self.invariant.numbered at c.place.ensures ∙ position-map (λ m. same_node c.args.node m)
    (λ (r : Row). r.node.number) rows)
