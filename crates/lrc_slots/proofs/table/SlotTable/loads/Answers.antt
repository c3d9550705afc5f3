use Rattle.std.proofs.Common.{◌∙◌}
use Rattle.lrc_slots.proofs.LoadLemmas.{loads-shown, loads-few}
use Rattle.lrc_slots.proofs.table.SlotTable.loads.Goals as goal

pub returns-clause-value : goal.returns-clause-value
returns-clause-value c =
    let s = c.self.inside in
    rw (← c.self.view_is) (c.as_slice.ensures.value ∙ (c.self.invariant.counted ∙ loads-shown s.rows.items c.self.invariant.nodes))

pub returns-clause-few : goal.returns-clause-few
returns-clause-few c =
    let s = c.self.inside in
    rw (c.as_slice.ensures.value, c.self.invariant.counted) (loads-few s.rows.items c.self.invariant.nodes)
