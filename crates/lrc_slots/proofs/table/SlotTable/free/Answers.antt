use Rattle.std.proofs.Common.{◌≡◌, ◌-◌, arith, ap}
use Rattle.lrc_slots.specs.Tables.{Row}
use Rattle.lrc_slots.specs.Rows.{row_load}
use Rattle.lrc_slots.proofs.TableLemmas.{known-taken}
use Rattle.lrc_slots.proofs.WriteLemmas.{load-inside, taken-low, taken-read, free-written, load-read, load-written, ordinal-low, ordinal-shown, row-replaced}
use Rattle.lrc_slots.proofs.table.SlotTable.free.Goals as goal

pub known_position-position-requires : goal.known_position-position-requires
known_position-position-requires c = known-taken c.args.self.now c.args.node c.args.slot c.requires

pub index-load-requires : goal.index-load-requires
index-load-requires c = let within = load-inside c.known_position-position.result c.self.view_is c.self.invariant.counted c.known_position-position.ensures.within in omega (arith, within)

pub listing-heavier-requires : goal.listing-heavier-requires
listing-heavier-requires c =
    load-read c.self.view_is c.args.node c.known_position-position.result c.known_position-position.ensures.value c.index_mut-row.result.now
    c.index_mut-row.ensures.value c.self.invariant
    c.index-load.result.now c.index-load.ensures

pub free-requires-clause-within : goal.free-requires-clause-within
free-requires-clause-within c =
    taken-low c.self.view_is c.args.node c.known_position-position.result c.known_position-position.ensures.value c.index_mut-row.result.now
    c.index_mut-row.ensures.value c.args.slot c.requires

pub free-requires-clause-taken : goal.free-requires-clause-taken
free-requires-clause-taken c =
    taken-read c.self.view_is c.args.node c.known_position-position.result c.known_position-position.ensures.value c.index_mut-row.result.now
    c.index_mut-row.ensures.value c.args.slot c.requires

pub overflow_sub-less : goal.overflow_sub-less
overflow_sub-less c =
    let was : c.index-load.result.now ≡ row_load c.index_mut-row.result.now = load-read c.self.view_is c.args.node c.known_position-position.result c.known_position-position.ensures.value c.index_mut-row.result.now
    c.index_mut-row.ensures.value c.self.invariant
    c.index-load.result.now c.index-load.ensures in
    omega (arith, was, c.free.ensures.load)

pub listing_with_room-lighter-requires : goal.listing_with_room-lighter-requires
listing_with_room-lighter-requires c =
    let was : c.index-load.result.now ≡ row_load c.index_mut-row.result.now = load-read c.self.view_is c.args.node c.known_position-position.result c.known_position-position.ensures.value c.index_mut-row.result.now
    c.index_mut-row.ensures.value c.self.invariant
    c.index-load.result.now c.index-load.ensures in
    record { load = omega (arith, was, c.free.ensures.load); room = c.free.ensures.room }

pub index_mut-requires : goal.index_mut-requires
index_mut-requires c = let within = load-inside c.known_position-position.result c.self.view_is c.self.invariant.counted c.known_position-position.ensures.within in omega (arith, within)

pub relist-requires-clause-ordinal : goal.relist-requires-clause-ordinal
relist-requires-clause-ordinal c =
    ordinal-low c.self.view_is c.args.node c.known_position-position.result c.known_position-position.ensures.value c.index_mut-row.result.now
    c.index_mut-row.ensures.value c.self.invariant c.index.result.now c.index.ensures

pub relist-requires-clause-shown : goal.relist-requires-clause-shown
relist-requires-clause-shown c =
    ordinal-shown c.self.view_is c.args.node c.known_position-position.result c.known_position-position.ensures.value c.index_mut-row.result.now
    c.index_mut-row.ensures.value c.self.invariant c.index.result.now c.index.ensures
    c.listing-heavier.result c.listing-heavier.ensures.value

pub invariant_of-self : goal.invariant_of-self
invariant_of-self c =
    let was : c.index-load.result.now ≡ row_load c.index_mut-row.result.now = load-read c.self.view_is c.args.node c.known_position-position.result c.known_position-position.ensures.value c.index_mut-row.result.now
    c.index_mut-row.ensures.value c.self.invariant
    c.index-load.result.now c.index-load.ensures in
    let is : c.index-load.result.now - 1 ≡ row_load c.free.new.self = omega (arith, was, c.free.ensures.load) in
    row-replaced c.self.view_is c.args.node c.known_position-position.result c.known_position-position.ensures.value c.index_mut-row.result.now
    c.index_mut-row.ensures.value c.self.invariant c.index.result.now c.index.ensures
    c.free.new.self _ c.relist.new.self c.listing_with_room-lighter.result (ap (λ (r : Row). r.node) c.free.ensures.freed)
    (load-written c.self.view_is c.args.node c.known_position-position.result c.known_position-position.ensures.value c.index_mut-row.result.now
    c.index_mut-row.ensures.value c.self.invariant c.free.new.self (c.index-load.result.now - 1) is)
    c.relist.ensures c.listing_with_room-lighter.ensures.value

pub returns : goal.returns
returns c =
    rw c.free.ensures.freed
    (free-written c.self.view_is c.args.node c.known_position-position.result c.known_position-position.ensures.value c.index_mut-row.result.now
    c.index_mut-row.ensures.value c.args.slot
    (taken-low c.self.view_is c.args.node c.known_position-position.result c.known_position-position.ensures.value c.index_mut-row.result.now
    c.index_mut-row.ensures.value c.args.slot c.requires))
