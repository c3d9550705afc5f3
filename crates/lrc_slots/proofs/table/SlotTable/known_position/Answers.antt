use Rattle.std.proofs.Common.{refl, sym, ◌∙◌}
use Rattle.lrc_topology.proofs.PositionLemmas.{position-map}
use Rattle.lrc_code.specs.Numbers.{same_node}
use Rattle.lrc_slots.specs.Tables.{Row}
use Rattle.lrc_slots.proofs.TableLemmas.{known-row, position_of-row}
use Rattle.lrc_slots.proofs.table.SlotTable.known_position.Goals as goal

pub place_of-requires : goal.place_of-requires
place_of-requires c =
    let rows = c.self.inside.rows.items in
    let row = known-row rows c.args.node (rw (← c.self.view_is) at c.requires) in
    rw (c.self.invariant.numbered, position-map (λ m. same_node c.args.node m) (λ (r : Row). r.node.number) rows, position_of-row rows c.args.node row.0 row.1) refl

pub returns-clause-value : goal.returns-clause-value
returns-clause-value c =
    let rows = c.self.inside.rows.items in
    rw (← c.self.view_is) (sym (position-map (λ m. same_node c.args.node m) (λ (r : Row). r.node.number) rows)
    ∙ rw c.self.invariant.numbered at c.place_of.ensures.value)
