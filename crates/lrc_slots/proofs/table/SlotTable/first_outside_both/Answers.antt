use Rattle.std.proofs.Common.{arith, ap, sym, ◌∙◌, Some}
use Rattle.lrc_slots.specs.Barred.{joined}
use Rattle.lrc_slots.specs.Indexes.{is_of_either}
use Rattle.lrc_slots.proofs.BarredNodesLemmas.{both-row}
use Rattle.lrc_slots.proofs.IndexLemmas.{chosen-row, none-open}
use Rattle.lrc_slots.proofs.WalkLemmas.{position-within, ordinal-within, position-read, row-read, read-known, read-room}
use Rattle.lrc_slots.proofs.table.SlotTable.first_outside_both.Goals as goal

pub index-requires : goal.index-requires
index-requires c =
    let h = c.self.invariant in
    let least = c.in_ok-ordinal.ensures in
    let within = ordinal-within h.by_ordinal h.by_load least.0 c.in_ok-ordinal.ordinal least.1.here in
    omega (arith, within)

pub index-requires-2 : goal.index-requires-2
index-requires-2 c =
    let h = c.self.invariant in
    let least = c.in_ok-ordinal.ensures in
    let within = position-within h.by_ordinal h.by_load least.0 c.in_ok-ordinal.ordinal least.1.here in
    let read = position-read h.by_ordinal h.by_load least.0 c.in_ok-ordinal.ordinal least.1.here c.index.result.now c.index.ensures in
    omega (arith, read, within)

pub returns-in_err-ordinal-clause-row : goal.returns-in_err-ordinal-clause-row
returns-in_err-ordinal-clause-row c = λ b other all more.
    let s = c.self.inside in
    let h = c.self.invariant in
    let known = rw (← c.self.view_is, ← c.ordinals.ensures) at all in
    let known_other = rw (← c.self.view_is, ← c.ordinals-2.ensures) at more in
    let barred = both-row h.by_ordinal b other c.ordinals.result.now c.ordinals-2.result.now known known_other in
    rw (c.from_residual.ensures, ← c.self.view_is)
    (sym (none-open s.rows.items h.nodes h.by_ordinal h.by_load (joined b other) (is_of_either c.ordinals.result.now c.ordinals-2.result.now) barred c.in_err-ordinal.ensures))

pub returns-clause-row : goal.returns-clause-row
returns-clause-row c = λ b other all more.
    let s = c.self.inside in
    let h = c.self.invariant in
    let known = rw (← c.self.view_is, ← c.ordinals.ensures) at all in
    let known_other = rw (← c.self.view_is, ← c.ordinals-2.ensures) at more in
    let barred = both-row h.by_ordinal b other c.ordinals.result.now c.ordinals-2.result.now known known_other in
    let least = c.in_ok-ordinal.ensures in
    let row = chosen-row s.rows.items h.nodes h.by_ordinal h.by_load (joined b other) (is_of_either c.ordinals.result.now c.ordinals-2.result.now) barred least.0
    c.in_ok-ordinal.ordinal c.index-2.result.now least.1 in
    let here = row-read h.by_ordinal h.by_load least.0 c.in_ok-ordinal.ordinal least.1.here c.index.result.now c.index.ensures
    c.index-2.result.now c.index-2.ensures in
    rw (← c.self.view_is) (ap Some here ∙ sym row)

pub returns-clause-known : goal.returns-clause-known
returns-clause-known c =
    let h = c.self.invariant in
    let least = c.in_ok-ordinal.ensures in
    rw (← c.self.view_is) (read-known h.by_ordinal h.by_load least.0 c.in_ok-ordinal.ordinal least.1.here c.index.result.now c.index.ensures
    c.index-2.result.now c.index-2.ensures)

pub returns-clause-room : goal.returns-clause-room
returns-clause-room c =
    let h = c.self.invariant in
    let least = c.in_ok-ordinal.ensures in
    read-room h.by_ordinal h.by_load least.0 c.in_ok-ordinal.ordinal least.1.here c.index.result.now c.index.ensures
    c.index-2.result.now c.index-2.ensures
