use Rattle.std.proofs.Common.{arith, ap}
use Rattle.lrc_slots.specs.Tables.{Row}
use Rattle.lrc_slots.specs.Rows.{row_load}
use Rattle.lrc_slots.proofs.WriteLemmas.{load-inside, eligible-written, load-read, load-kept, ordinal-low, ordinal-shown, row-replaced}
use Rattle.lrc_slots.proofs.table.SlotTable.set_eligible.Goals as goal

pub index-load-requires : goal.index-load-requires
index-load-requires c = let within = load-inside c.known_position-position.result c.self.view_is c.self.invariant.counted c.known_position-position.ensures.within in omega (arith, within)

pub listing-before-requires : goal.listing-before-requires
listing-before-requires c =
    load-read c.self.view_is c.args.node c.known_position-position.result c.known_position-position.ensures.value c.index_mut-row.result.now
    c.index_mut-row.ensures.value c.self.invariant
    c.index-load.result.now c.index-load.ensures

pub listing-after-requires : goal.listing-after-requires
listing-after-requires c =
    rw c.set_eligible.ensures (load-read c.self.view_is c.args.node c.known_position-position.result c.known_position-position.ensures.value c.index_mut-row.result.now
    c.index_mut-row.ensures.value c.self.invariant
    c.index-load.result.now c.index-load.ensures)

pub relist-requires-clause-ordinal : goal.relist-requires-clause-ordinal
relist-requires-clause-ordinal c =
    ordinal-low c.self.view_is c.args.node c.known_position-position.result c.known_position-position.ensures.value c.index_mut-row.result.now
    c.index_mut-row.ensures.value c.self.invariant c.index.result.now c.index.ensures

pub relist-requires-clause-shown : goal.relist-requires-clause-shown
relist-requires-clause-shown c =
    ordinal-shown c.self.view_is c.args.node c.known_position-position.result c.known_position-position.ensures.value c.index_mut-row.result.now
    c.index_mut-row.ensures.value c.self.invariant c.index.result.now c.index.ensures
    c.listing-before.result c.listing-before.ensures.value

pub invariant_of-self : goal.invariant_of-self
invariant_of-self c =
    row-replaced c.self.view_is c.args.node c.known_position-position.result c.known_position-position.ensures.value c.index_mut-row.result.now
    c.index_mut-row.ensures.value c.self.invariant c.index.result.now c.index.ensures
    c.set_eligible.new.self _ c.relist.new.self c.listing-after.result (ap (λ (r : Row). r.node) c.set_eligible.ensures)
    (load-kept c.self.view_is c.args.node c.known_position-position.result c.known_position-position.ensures.value c.index_mut-row.result.now
    c.index_mut-row.ensures.value c.self.invariant c.set_eligible.new.self (ap row_load c.set_eligible.ensures))
    c.relist.ensures c.listing-after.ensures.value

pub returns : goal.returns
returns c =
    rw c.set_eligible.ensures
    (eligible-written c.self.view_is c.args.node c.known_position-position.result c.known_position-position.ensures.value c.index_mut-row.result.now
    c.index_mut-row.ensures.value c.args.eligible)
